-- Rules that take twelve bytes each, one behind the other. Nothing here is promised to a caller.
use Rattle.std.specs.Prelude.{◌≡◌, ◌<◌, ◌≤◌, ℕ, ◌+◌, ◌*◌, true, List, map, length}
use Rattle.pol_fields.specs.declared.limits.TheConstants.{MAX_POLICY_BYTES}
use Rattle.pol_cursor.specs.Inner.EvenPlaces.{even_places}
use Rattle.pol_cursor.specs.References.{Placed}
use Rattle.pol_avtab.specs.declared.av_rec.AvRec.{AvRec}
use Rattle.pol_avtab.specs.AvRecord.{is_kind, specified_in, av_in}

-- so many of them from a place on
abbrev pub even_rules : List ℕ → ℕ → ℕ → List (Placed AvRec)
even_rules bytes place n = map (λ rule. record { place = rule; value = av_in bytes rule }) (even_places 12 place n)

-- They are there, in a buffer of a policy's size, and each is of a kind that each version has.
pub record HasEven (bytes : List ℕ) (place n : ℕ) : Type 0 where
  pub long : place + n * 12 ≤ length bytes
  pub small : length bytes ≤ MAX_POLICY_BYTES
  pub kinds : (i : ℕ) → i < n → is_kind 0 (specified_in bytes (place + i * 12)) ≡ true
