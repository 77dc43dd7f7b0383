-- The lines of rules between single types that are left.
use Rattle.std.specs.Prelude.{◌≡◌, ◌<◌, ◌≤◌, ◌+◌, ◌*◌, ◌-◌, ◌++◌, ℕ, Bool, true, false, List, [], ◌∷◌, Option, Some, None, length, map, min, slice_get, take, drop}
use Rattle.std.specs.List.{All, concat}
use Rattle.pol_file.specs.declared.Parts.{Parts}
use Rattle.se_items.specs.Pieces.{Left}
use Rattle.set_products.specs.declared.Place.{Place}
use Rattle.set_products.specs.Members.{Product, members}
use Rattle.set_products.specs.Standing.{StandsAt, member_in}
use Rattle.pol_read.specs.StoredRules.{stored_rules}
use Rattle.se_search.specs.declared.row_lines.RowLines.{RowLines}
use Rattle.se_search.specs.declared.single_lines.SingleLines.{SingleLines}
use Rattle.se_search.specs.Inner.RowLines.{IsFrameOf, IsHeadOf}
use Rattle.se_search.specs.SearchAnswer.{single_line}

-- the lines of the members from the one of a number up to another
abbrev pub lines_between : Parts → List Product → ℕ → ℕ → List (List ℕ)
lines_between policy products passed end = drop passed (take end (map (single_line policy) (members products)))

abbrev pub lines_left : SingleLines → List (List ℕ)
lines_left lines = lines_between lines.texts.now lines.places lines.passed lines.end

-- ---- what serves the code alone

-- the products are of rules
abbrev pub AreOfRules : Parts → List Product → Type 0
AreOfRules policy products = All (λ product. product.rule < length (stored_rules policy)) products

-- before which of all members a part ends, where so many are passed over and at most so many are asked for
abbrev pub end_of : ℕ → ℕ → Option ℕ → ℕ
end_of all passed None = all
end_of all passed (Some count) = min (passed + count) all

-- The targets of a row are those of the next members, and a place comes after them. Its frame is that of its rule and its source.
pub record IsRow (policy : Parts) (products : List Product) (passed : ℕ) (behind : Place) (lines : RowLines) : Type 0 where
  pub frame : IsFrameOf policy lines.row.rule lines.frame
  pub head : IsHeadOf lines.row.source lines.frame
  pub each : (i target : ℕ) → slice_get lines.row.targets i ≡ Some target → slice_get (members products) (passed + i) ≡ Some (member_in lines.row target)
  pub after : StandsAt products behind (passed + length lines.row.targets)

-- a row is at hand, or a place has the members before it that are passed
abbrev pub IsAtRow : Parts → List Product → ℕ → Place → Option RowLines → Type 0
IsAtRow policy products passed behind None = StandsAt products behind passed
IsAtRow policy products passed behind (Some lines) = IsRow policy products passed behind lines

pub record StandsIn (lines : SingleLines) : Type 0 where
  pub are_rules : AreOfRules lines.texts.now lines.places
  pub within : lines.passed ≤ lines.end
  pub fits : lines.end ≤ length (members lines.places)
  pub at_row : IsAtRow lines.texts.now lines.places lines.passed lines.after lines.row

-- how many turns it takes at most until a line is added
abbrev pub turns_to_targets : List ℕ → ℕ
turns_to_targets [] = 1
turns_to_targets (target ∷ targets) = 0

abbrev pub turns_to_line : Option RowLines → ℕ
turns_to_line None = 1
turns_to_line (Some lines) = turns_to_targets lines.row.targets

abbrev pub turns_left : SingleLines → ℕ
turns_left lines = 2 * (lines.end - lines.passed) + turns_to_line lines.row

abbrev pub text_left : SingleLines → Left
text_left lines = record { text = concat (lines_left lines); pieces = turns_left lines }

-- a row can begin: a line is left, and a place has the members before it that are passed
pub record CanBegin (lines : SingleLines) : Type 0 where
  pub are_rules : AreOfRules lines.texts.now lines.places
  pub more : lines.passed < lines.end
  pub fits : lines.end ≤ length (members lines.places)
  pub stands : StandsAt lines.places lines.after lines.passed

-- a row has begun
pub record BeginsRow (old new : SingleLines) : Type 0 where
  pub stands : StandsIn new
  pub same : lines_left new ≡ lines_left old
  pub nearer : turns_left new < 2 * (old.end - old.passed) + 1
