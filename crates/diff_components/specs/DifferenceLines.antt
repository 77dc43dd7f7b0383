-- Lines of differences, which are made one after the other.
use Rattle.std.specs.Prelude.{◌≡◌, ℕ, List, [], ◌∷◌, ◌++◌, Bool, true, false}

-- The first of the lines that were left was added to a buffer.
pub record AddsLine (old new : List (List ℕ)) (had has : List ℕ) : Type 0 where
  pub line : List ℕ
  pub left : old ≡ line ∷ new
  pub added : has ≡ had ++ line

-- A line was added, or none was left.
abbrev pub PushesLine : List (List ℕ) → List (List ℕ) → List ℕ → List ℕ → Bool → Type 0
PushesLine old new had has true = AddsLine old new had has
PushesLine old new had has false = (old ≡ []) × (has ≡ had)
