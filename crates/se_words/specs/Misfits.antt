-- Which word does not fit. A value has to be what its option asks for, also one that a later value replaces.
use Rattle.std.specs.Prelude.{ℕ, List, [], ◌∷◌, is_some, Bool, true, ◌||◌, Option, Some, None, if◌then◌else◌}
use Rattle.std.specs.Option.{option_or}
use Rattle.se_words.specs.Options.{ValueKind, Text, Number, CommaList, CommaListUnless, States, Takes, Value, Named, Group, Positional, Given, Misfit}
use Rattle.se_words.specs.Values.{number_within, is_comma_list, is_state_list}
use Rattle.se_words.specs.Given.{is_given}

-- a text is what the value of an option has to be, among the groups of all words
abbrev pub fits : List Group → ValueKind → List ℕ → Bool
fits groups Text text = true
fits groups (Number least most) text = is_some (number_within least most text)
fits groups CommaList text = is_comma_list text
fits groups (CommaListUnless option) text = is_comma_list text || is_given option groups
fits groups States text = is_state_list text

-- the word of the value of an option that takes this, if it does not fit
abbrev pub value_misfit : List Group → Takes → Named → Option ℕ
value_misfit groups (Value kind) value = if fits groups kind value.text then None else Some value.word
value_misfit groups takes value = None

-- the word of a group that does not fit, if there is one
abbrev pub misfit_in : List Group → Group → Option ℕ
misfit_in groups (Positional name) = None
misfit_in groups (Given row None) = None
misfit_in groups (Given row (Some value)) = value_misfit groups row.takes value
misfit_in groups (Misfit n) = Some n

-- the first word that does not fit in some of the groups
unfoldable pub misfit_among : List Group → List Group → Option ℕ
misfit_among groups [] = None
misfit_among groups (group ∷ others) = option_or (misfit_in groups group) (misfit_among groups others)

-- The first word that does not fit. The groups stand in the order of their words, so that it has the least number.
abbrev pub first_misfit : List Group → Option ℕ
first_misfit groups = misfit_among groups groups
