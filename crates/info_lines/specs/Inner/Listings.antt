-- The lines of a listing, by their numbers from 0 on.
use Rattle.std.specs.Prelude.{ℕ, ◌<◌, List, [], length, get_or}

-- the listing has a line of that number
abbrev pub HasLine : List (List ℕ) → ℕ → Type 0
HasLine listing number = number < length listing

-- that line
abbrev pub line_of : List (List ℕ) → ℕ → List ℕ
line_of listing number = get_or listing number []
