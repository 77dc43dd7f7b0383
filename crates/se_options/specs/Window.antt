-- Which items of a listing are wanted: those after the first so many, and at most so many of them.
use Rattle.std.specs.Prelude.{ℕ, List, [], ◌∷◌, ◌++◌, codes, unwrap_or, Option, Some}
use Rattle.se_words.specs.Options.{ValueKind, Number, Row, valued, Group}
use Rattle.se_words.specs.Given.{given_number}
use Rattle.std.specs.Prelude.{None}
use Rattle.se_items.specs.Paging.{most_items}

-- the value of an option that limits how many items are listed
abbrev pub limit_kind : ValueKind
limit_kind = Number 1 most_items

-- the option that says after how many items the listing begins
abbrev pub from_option : Row
from_option = valued None (codes "--from") (Number 0 most_items)

-- the limit that the option of that name gives
abbrev pub limit_in : List ℕ → List Group → Option ℕ
limit_in option groups = given_number 1 most_items option groups

-- after how many items the listing begins
abbrev pub from_in : List Group → ℕ
from_in groups = unwrap_or (given_number 0 most_items from_option.name groups) 0

-- the words that ask for the items after the first so many
abbrev pub from_words : List ℕ → List (Option (List ℕ))
from_words from = Some (codes "--from") ∷ Some from ∷ []

-- the words that ask for so many of them
abbrev pub page_words : List ℕ → List ℕ → List (Option (List ℕ))
page_words from limit = from_words from ++ Some (codes "-l") ∷ Some limit ∷ []
