-- Items that are numbered.
use Rattle.std.specs.Prelude.{ℕ, ◌+◌, List, [], ◌∷◌}

-- the texts of items, which are numbered from a number on
abbrev pub numbered : {A : Type 0} → (ℕ → A → List ℕ) → ℕ → List A → List (List ℕ)
numbered text number [] = []
numbered text number (x ∷ xs) = text number x ∷ numbered text (number + 1) xs
