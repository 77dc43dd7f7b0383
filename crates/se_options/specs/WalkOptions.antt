-- What the words of sedta and of seinfoflow share: a listing goes out from a source or, reversed, into it; or it has walks from the
-- source to a target, all shortest ones or all up to a number of steps.
use Rattle.std.specs.Prelude.{ℕ, List, codes, Bool, true, false, not, Option, None, Some}
use Rattle.se_words.specs.Options.{Row, ValueKind, Group, Number, States, Text, switch, valued}
use Rattle.se_words.specs.Given.{given_number, is_given}

abbrev pub policy_option : Row
policy_option = valued (Some (codes "-p")) (codes "--policy") Text

abbrev pub source_option : Row
source_option = valued (Some (codes "-s")) (codes "--source") Text

abbrev pub target_option : Row
target_option = valued (Some (codes "-t")) (codes "--target") Text

abbrev pub shortest_option : Row
shortest_option = switch (Some (codes "-S")) (codes "--shortest_path")

abbrev pub reverse_option : Row
reverse_option = switch (Some (codes "-r")) (codes "--reverse")

-- a walk has from 1 to 99 steps at most
abbrev pub steps_kind : ValueKind
steps_kind = Number 1 99

-- the option that asks for all walks of at most so many steps that have no node twice
abbrev pub all_option : Row
all_option = valued None (codes "-A") steps_kind

-- the option that states booleans, so that only the rules count that do then
abbrev pub states_option : Row
states_option = valued None (codes "--bool-state") States

-- the most steps that `-A` gives
abbrev pub all_in : List Group → Option ℕ
all_in groups = given_number 1 99 all_option.name groups

-- A target needs exactly one of `-S` and `-A`, and each of these needs a target, which excludes `-r`.
abbrev pub agree : Bool → Bool → Bool → Bool → Bool
agree true true false reverse = not reverse
agree true false true reverse = not reverse
agree false false false reverse = true
agree target shortest all reverse = false

-- the options of some groups of words do so
abbrev pub options_agree : List Group → Bool
options_agree groups =
    agree (is_given target_option.name groups) (is_given shortest_option.name groups) (is_given all_option.name groups) (is_given reverse_option.name groups)
