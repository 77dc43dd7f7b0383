-- Places, each of which stands for the number of the members before it.
use Rattle.std.specs.Prelude.{◌≡◌, ◌⊎◌, ℕ, ◌+◌, ◌*◌, ◌<◌, Option, Some, None, List, [], ◌∷◌, length, take, drop, slice_get}
use Rattle.set_products.specs.declared.entry.Place.{Place}
use Rattle.set_products.specs.declared.entry.Single.{Single}
use Rattle.set_products.specs.declared.row.Row.{Row}
use Rattle.set_products.specs.Members.{Product, product_at, members}

-- how many members the products before one have
abbrev pub members_before : List Product → ℕ → ℕ
members_before ps i = length (members (take i ps))

-- A place is that of a member. Before it come the members of the products before its own, those of the i sources before its own,
-- and j more for the targets before its own.
pub record IsAt (ps : List Product) (place : Place) (k : ℕ) : Type 0 where
  pub i : ℕ
  pub j : ℕ
  pub within : place.entry < length ps
  pub source : slice_get (product_at ps place.entry).sources i ≡ Some place.source
  pub target : slice_get (product_at ps place.entry).targets j ≡ Some place.target
  pub number : k ≡ members_before ps place.entry + (i * length (product_at ps place.entry).targets + j)

-- A place is the end, which comes after all members.
pub record IsEnd (ps : List Product) (place : Place) (k : ℕ) : Type 0 where
  pub past : place.entry ≡ length ps
  pub number : k ≡ length (members ps)

abbrev pub StandsAt : List Product → Place → ℕ → Type 0
StandsAt ps place k = IsAt ps place k ⊎ IsEnd ps place k

-- What a step gives from a place that has k members before it: the member of that number and the place after it, or `None`
-- exactly where there are no more.
abbrev pub NextGives : List Product → ℕ → Option (Single × Place) → Type 0
NextGives ps k None = k ≡ length (members ps)
NextGives ps k (Some step) = (slice_get (members ps) k ≡ Some step.0) × StandsAt ps step.1 (k + 1)

-- ---- rows

-- a member of a row
abbrev pub member_in : Row → ℕ → Single
member_in row target = record { rule = row.rule; source = row.source; target = target }

-- The members of a row, of which there are some, stand one after the other from a number on, and a place comes after them.
pub record IsRowAt (ps : List Product) (k : ℕ) (row : Row) (behind : Place) : Type 0 where
  pub some : 0 < length row.targets
  pub each : (i target : ℕ) → slice_get row.targets i ≡ Some target → slice_get (members ps) (k + i) ≡ Some (member_in row target)
  pub after : StandsAt ps behind (k + length row.targets)

-- What is given from a place on that has k members before it: a row from there on, or `None` exactly where there are no more.
abbrev pub RowGives : List Product → ℕ → Option (Row × Place) → Type 0
RowGives ps k None = k ≡ length (members ps)
RowGives ps k (Some step) = IsRowAt ps k step.0 step.1

-- A row has all the targets that are left of the source of a place: those of its entry from the place's own target on.
abbrev pub HasRestOf : List Product → Place → Row → Type 0
HasRestOf ps place row = (j : ℕ) → slice_get (product_at ps place.entry).targets j ≡ Some place.target → row.targets ≡ drop j (product_at ps place.entry).targets

-- ---- step after step

-- a function does what `next` does
abbrev pub IsNext : List Product → (Place → Option (Single × Place)) → Type 0
IsNext ps next = (at : Place) (k : ℕ) → StandsAt ps at k → NextGives ps k (next at)

-- These are given from a place on, one after the other, until there are no more.
abbrev pub IsListing : (Place → Option (Single × Place)) → Place → List Single → Type 0
IsListing next at [] = next at ≡ None
IsListing next at (s ∷ ss) = (after : Place) × (next at ≡ Some (s, after)) × IsListing next after ss
