-- What sesearch is asked. Its options are those of the manual page sesearch(1) of SETools, with `--singles`, `-l` and
-- `--from`, which are this project's own.
use Rattle.std.specs.Prelude.{ℕ, List, [], ◌∷◌, ◌++◌, codes, option_map, Bool, true, false, not, ◌&&◌, ◌||◌, Option, Some, None}
use Rattle.std.specs.List.{list_any}
use Rattle.se_words.specs.Options.{Row, Named, Group, Text, CommaList, CommaListUnless, switch, valued, named_view}
use Rattle.se_words.specs.Given.{first_positional, given_value, is_given}
use Rattle.rule_criteria.specs.declared.criteria.Criteria.{Criteria}
use Rattle.rule_criteria.specs.declared.criteria.Criterion.{Criterion}
use Rattle.rule_criteria.specs.declared.criteria.Mode.{Mode}
use Rattle.rule_criteria.specs.declared.criteria.Mode.TheVariants.{Plain, Direct, Pattern, PatternDirect, Equal, Subset}
use Rattle.se_options.specs.Window.{limit_kind, from_option, limit_in, from_in}
use Rattle.se_options.specs.declared.search_request.SearchRequest.{SearchRequest}

-- the options that ask for kinds of rules
abbrev pub kind_options : List Row
kind_options =
    switch None (codes "-A") ∷ switch None (codes "--allow") ∷ switch None (codes "--auditallow") ∷ switch None (codes "--dontaudit") ∷
    switch None (codes "--allowxperm") ∷ switch None (codes "--auditallowxperm") ∷ switch None (codes "--dontauditxperm") ∷
    switch (Some (codes "-T")) (codes "--type_trans") ∷ switch None (codes "--type_change") ∷ switch None (codes "--type_member") ∷
    switch None (codes "--role_allow") ∷ switch None (codes "--role_trans") ∷ switch None (codes "--range_trans") ∷ []

-- The options that give criteria. The value of `-c` is a pattern where `-rc` is given, and that of `-b` where `-rb` is.
abbrev pub criterion_options : List Row
criterion_options =
    valued (Some (codes "-s")) (codes "--source") Text ∷ valued (Some (codes "-t")) (codes "--target") Text ∷
    valued (Some (codes "-c")) (codes "--class") (CommaListUnless (codes "-rc")) ∷ valued (Some (codes "-p")) (codes "--perms") CommaList ∷
    valued (Some (codes "-x")) (codes "--xperms") CommaList ∷ valued (Some (codes "-D")) (codes "--default") Text ∷
    valued (Some (codes "-b")) (codes "--bool") (CommaListUnless (codes "-rb")) ∷ []

-- the options that say how criteria are compared: directly, by a pattern, by equal sets, or as a subset
abbrev pub mode_options : List Row
mode_options =
    switch None (codes "-ds") ∷ switch None (codes "-dt") ∷ switch None (codes "-rs") ∷ switch None (codes "-rt") ∷ switch None (codes "-rc") ∷
    switch None (codes "-rd") ∷ switch None (codes "-rb") ∷ switch None (codes "-ep") ∷ switch None (codes "-ex") ∷ switch None (codes "-eb") ∷
    switch None (codes "-Sp") ∷ []

-- the option that asks for the rules between single types
abbrev pub singles_option : Row
singles_option = switch None (codes "--singles")

-- the option that limits how many lines are listed
abbrev pub limit_option : Row
limit_option = valued None (codes "-l") limit_kind

-- the options of sesearch
unfoldable pub search_options : List Row
search_options = kind_options ++ criterion_options ++ mode_options ++ singles_option ∷ limit_option ∷ from_option ∷ []

-- the allow rules of an option are asked for, by it or by `-A`
abbrev pub asks_for_allow : List ℕ → List Group → Bool
asks_for_allow option groups = is_given (codes "-A") groups || is_given option groups

-- The kinds of rules that are asked for, in the order in which rules are listed. `-A` asks for allow and for allowxperm.
abbrev pub kinds_in : List Group → List Bool
kinds_in groups =
    asks_for_allow (codes "--allow") groups ∷ is_given (codes "--auditallow") groups ∷ is_given (codes "--dontaudit") groups ∷
    asks_for_allow (codes "--allowxperm") groups ∷ is_given (codes "--auditallowxperm") groups ∷ is_given (codes "--dontauditxperm") groups ∷
    is_given (codes "--type_trans") groups ∷ is_given (codes "--type_change") groups ∷ is_given (codes "--type_member") groups ∷
    is_given (codes "--role_allow") groups ∷ is_given (codes "--role_trans") groups ∷ is_given (codes "--range_trans") groups ∷ []

-- how a source or a target is compared, by whether that is directly, and by a pattern
abbrev pub end_mode : Bool → Bool → Mode
end_mode false false = Plain
end_mode true false = Direct
end_mode false true = Pattern
end_mode true true = PatternDirect

-- how a class or a default is compared, by whether that is by a pattern
abbrev pub name_mode : Bool → Mode
name_mode true = Pattern
name_mode false = Plain

-- how permissions are compared, by whether those are equal sets, and a subset; the two exclude each other
abbrev pub permission_mode : Bool → Bool → Mode
permission_mode true subset = Equal
permission_mode false true = Subset
permission_mode false false = Plain

-- how ioctl numbers are compared, by whether those are equal sets
abbrev pub number_mode : Bool → Mode
number_mode true = Equal
number_mode false = Plain

-- how booleans are compared, by whether those are equal sets, and by a pattern; the two exclude each other
abbrev pub boolean_mode : Bool → Bool → Mode
boolean_mode true pattern = Equal
boolean_mode false true = Pattern
boolean_mode false false = Plain

-- a criterion of the value that an option is given
abbrev pub criterion_of : Mode → Option Named → Option Criterion
criterion_of mode value = option_map (λ name. record { text = name.text; word = name.word; mode = mode }) value

-- the criterion of an option for a source or a target, with the options that compare it directly, and by a pattern
abbrev pub end_criterion : List ℕ → List ℕ → List ℕ → List Group → Option Criterion
end_criterion option direct pattern groups = criterion_of (end_mode (is_given direct groups) (is_given pattern groups)) (given_value option groups)

-- the criterion of an option for a class or a default, with the option that compares it by a pattern
abbrev pub name_criterion : List ℕ → List ℕ → List Group → Option Criterion
name_criterion option pattern groups = criterion_of (name_mode (is_given pattern groups)) (given_value option groups)

-- the criterion for permissions
abbrev pub permission_criterion : List Group → Option Criterion
permission_criterion groups =
    criterion_of (permission_mode (is_given (codes "-ep") groups) (is_given (codes "-Sp") groups)) (given_value (codes "--perms") groups)

-- the criterion for ioctl numbers
abbrev pub number_criterion : List Group → Option Criterion
number_criterion groups = criterion_of (number_mode (is_given (codes "-ex") groups)) (given_value (codes "--xperms") groups)

-- the criterion for booleans
abbrev pub boolean_criterion : List Group → Option Criterion
boolean_criterion groups =
    criterion_of (boolean_mode (is_given (codes "-eb") groups) (is_given (codes "-rb") groups)) (given_value (codes "--bool") groups)

-- the criteria of groups of words
abbrev pub criteria_in : List Group → Criteria
criteria_in groups = record {
  kinds = kinds_in groups;
  source = end_criterion (codes "--source") (codes "-ds") (codes "-rs") groups;
  target = end_criterion (codes "--target") (codes "-dt") (codes "-rt") groups;
  class = name_criterion (codes "--class") (codes "-rc") groups;
  perms = permission_criterion groups;
  xperms = number_criterion groups;
  default = name_criterion (codes "--default") (codes "-rd") groups;
  bools = boolean_criterion groups;
}

-- what sesearch is asked: of the policy of that name, the rules that meet the criteria, each between single types where that is asked;
-- the lines after the first so many, and at most so many of them
pub record SearchAsks : Type 0 where
  pub policy : Named
  pub criteria : Criteria
  pub singles : Bool
  pub from : ℕ
  pub limit : Option ℕ

-- at least one kind of rules is asked for
abbrev pub asks_for_rules : List Group → Bool
asks_for_rules groups = list_any (λ asked. asked) (kinds_in groups)

-- Equal sets of permissions exclude a subset, and equal sets of booleans a pattern.
abbrev pub modes_agree : List Group → Bool
modes_agree groups =
    not (is_given (codes "-ep") groups && is_given (codes "-Sp") groups) && not (is_given (codes "-eb") groups && is_given (codes "-rb") groups)

-- what is asked of a policy
abbrev pub search_asks : Named → List Group → SearchAsks
search_asks policy groups = record { policy = policy; criteria = criteria_in groups; singles = is_given (codes "--singles") groups; from = from_in groups; limit = limit_in limit_option.name groups }

-- that, if the words name one, ask for rules, and agree
abbrev pub search_by : Option Named → Bool → List Group → Option SearchAsks
search_by (Some policy) true groups = Some (search_asks policy groups)
search_by policy agree groups = None

-- what groups of words ask of sesearch, if they name a policy and a kind of rules, and their options agree
abbrev pub search_in : List Group → Option SearchAsks
search_in groups = search_by (first_positional groups) (asks_for_rules groups && modes_agree groups) groups

-- what a request of the code says
abbrev pub search_view : SearchRequest → SearchAsks
search_view asks = record { policy = named_view asks.policy; criteria = asks.criteria; singles = asks.singles; from = asks.from; limit = asks.limit }
