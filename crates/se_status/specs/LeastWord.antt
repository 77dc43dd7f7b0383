-- The least number of the words that are refused.
use Rattle.std.specs.Prelude.{ℕ, List, [], ◌∷◌, flat_map, min, Option, Some, None}
use Rattle.std.specs.Option.{option_to_list}

-- the least of two numbers that may be there
abbrev pub least : Option ℕ → Option ℕ → Option ℕ
least None second = second
least (Some first) None = Some first
least (Some first) (Some second) = Some (min first second)

-- the least of some numbers, if there is one
abbrev pub least_of : List ℕ → Option ℕ
least_of [] = None
least_of (number ∷ numbers) = least (Some number) (least_of numbers)

-- the numbers of those that have one
abbrev pub numbers_of : {A : Type 0} → (A → Option ℕ) → List A → List ℕ
numbers_of number xs = flat_map (λ x. option_to_list (number x)) xs

-- the least of them: where a number is that of a word that is refused, the word at which a run ends
abbrev pub least_number : {A : Type 0} → (A → Option ℕ) → List A → Option ℕ
least_number number xs = least_of (numbers_of number xs)
