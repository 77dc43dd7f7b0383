-- The text of a set of names.
use Rattle.std.specs.Prelude.{ℕ, List, [], ◌∷◌, ◌++◌, codes}
use Rattle.std.specs.List.{flat_map}

-- names, with a space before each
abbrev pub listed : List (List ℕ) → List ℕ
listed names = flat_map (λ name. codes " " ++ name) names

-- One name is itself, and otherwise they stand in braces (the policy language's sets, as SETools prints them).
abbrev pub set_text : List (List ℕ) → List ℕ
set_text [] = codes "{ }"
set_text (name ∷ []) = name
set_text (name ∷ next ∷ names) = codes "{" ++ listed (name ∷ next ∷ names) ++ codes " }"
