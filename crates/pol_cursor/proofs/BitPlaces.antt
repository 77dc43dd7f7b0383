-- A bit that is set leaves the others.
use Rattle.std.proofs.Common.{◌≡◌, ℕ, ◌/◌, ◌%◌, ◌*◌, ◌^◌, ◌<◌, Bool, true, false, inl, inr, List, length, get_or, set, refl, sym, ap, ◌∙◌, arith}
use Rattle.std.specs.Prelude.{◌==◌, ◌||◌, bit_or}
use Rattle.std.specs.Int.{bit_at, w64}
use Rattle.std.proofs.lemmas.Bool.{cases_eq, or_right, eq-eqb, ne_eqb}
use Rattle.std.proofs.lemmas.Nat.Bits.{bit_at_set_same, bit_at_set_other}
use Rattle.std.proofs.lemmas.List.{get_or-set_same, get_or-set_other}
use Rattle.pol_cursor.specs.Inner.BitPlaces.{has_bit_of}

pub or_nothing : (a : Bool) → (a || false) ≡ a
or_nothing true = refl
or_nothing false = refl

pub bit_set : (bits : List ℕ) (place other : ℕ) → place / 64 < length bits
    → has_bit_of (set bits (place / 64) (bit_or (get_or bits (place / 64) 0) (1 * 2 ^ (place % 64) % 2 ^ 64))) other ≡ (has_bit_of bits other || (place == other))
unfolding has_bit_of
bit_set bits place other lt =
    let k = place / 64 in
    let j = place % 64 in
    let old = get_or bits k 0 in
    let new = bit_or old (1 * 2 ^ j % 2 ^ 64) in
    elim (cases_eq other place) [
      | inl e ↦ rw e (eq-eqb _ 1 (ap (λ (w : ℕ). bit_at w j) (get_or-set_same bits k new 0 lt) ∙ bit_at_set_same w64 old j (omega arith)) ∙ sym (or_right (bit_at old j == 1) (place == place) (eq-eqb place place refl)))
      | inr differs ↦
          elim (cases_eq (other / 64) k) [
            | inl e ↦
                ap (λ (i : ℕ). bit_at (get_or (set bits k new) i 0) (other % 64) == 1) e
                ∙ ap (λ (w : ℕ). bit_at w (other % 64) == 1) (get_or-set_same bits k new 0 lt)
                ∙ ap (λ (b : ℕ). b == 1) (bit_at_set_other w64 old j (omega arith) (other % 64) (λ d. differs (omega arith)))
                ∙ ap (λ (i : ℕ). bit_at (get_or bits i 0) (other % 64) == 1) (sym e)
            | inr far ↦ ap (λ (w : ℕ). bit_at w (other % 64) == 1) (get_or-set_other bits k (other / 64) new 0 far)
          ]
          ∙ sym (ap (λ (b : Bool). (bit_at (get_or bits (other / 64) 0) (other % 64) == 1) || b) (ne_eqb place other (λ e. differs (sym e))) ∙ or_nothing _)
    ]
