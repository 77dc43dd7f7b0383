-- The elements of a criterion that is a list: its text, cut at the commas.
use Rattle.std.specs.Prelude.{ℕ, ◌==◌, Bool, List}
use Rattle.std.specs.List.{slice_split}

abbrev pub is_comma : ℕ → Bool
is_comma byte = byte == 44

-- A text without a comma has itself as its one element, also where it is empty.
abbrev pub elements_of : List ℕ → List (List ℕ)
elements_of text = slice_split is_comma text
