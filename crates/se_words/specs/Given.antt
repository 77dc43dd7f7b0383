-- What groups of words give: options, with the value of the last occurrence of each, and positional words.
use Rattle.std.specs.Prelude.{ℕ, List, [], ◌∷◌, bytes_eq, is_some, Bool, Option, Some, None, if◌then◌else◌}
use Rattle.std.specs.Option.{option_and_then, option_flatten, option_or}
use Rattle.std.specs.List.{filter_map}
use Rattle.se_words.specs.Options.{Named, Group, Positional, Given}
use Rattle.se_words.specs.Values.{number_within}

-- the value of a group that gives the option of that name
abbrev pub value_in : List ℕ → Group → Option (Option Named)
value_in option (Given row value) = if bytes_eq row.name option then Some value else None
value_in option group = None

-- the value that the last of the groups with the option gives it, if there is one
unfoldable pub last_value : List ℕ → List Group → Option (Option Named)
last_value option [] = None
last_value option (group ∷ groups) = option_or (last_value option groups) (value_in option group)

-- the option is given
abbrev pub is_given : List ℕ → List Group → Bool
is_given option groups = is_some (last_value option groups)

-- the value of the option, if it is given with one
abbrev pub given_value : List ℕ → List Group → Option Named
given_value option groups = option_flatten (last_value option groups)

-- the number that the option is given, if that is one from the least to the most
abbrev pub given_number : ℕ → ℕ → List ℕ → List Group → Option ℕ
given_number least most option groups = option_and_then (λ value. number_within least most value.text) (given_value option groups)

-- the word of a group that is positional
abbrev pub positional_in : Group → Option Named
positional_in (Positional name) = Some name
positional_in group = None

-- the positional words
abbrev pub positionals : List Group → List Named
positionals groups = filter_map positional_in groups

-- the first positional word
unfoldable pub first_positional : List Group → Option Named
first_positional [] = None
first_positional (group ∷ groups) = option_or (positional_in group) (first_positional groups)
