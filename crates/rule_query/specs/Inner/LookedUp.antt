-- What the names of criteria were looked up to: patterns that were built, and the values that an end may have. It serves the code alone.
use Rattle.std.specs.Prelude.{◌≡◌, ℕ, Bool, true, false, nat_eq, Option, Some, None, List, ⊤, if◌then◌else◌}
use Rattle.std.specs.List.{list_any}
use Rattle.pol_fields.specs.declared.TableKind.TheVariants.{Roles, Types}
use Rattle.pol_bitmap.specs.Nodes.{has_bit}
use Rattle.pol_symbols.specs.PolicySymbols.{value_in}
use Rattle.pol_symbols.specs.declared.Symbols.{Symbols}
use Rattle.pol_file.specs.declared.Parts.{Parts}
use Rattle.pol_expand.specs.Expansion.{Expansions}
use Rattle.pol_expand.specs.PolicyMap.{IsPolicyMap, expand}
use Rattle.pol_read.specs.DeclaredRules.{IsDeclaredIn}
use Rattle.regex.specs.declared.string.regex.Regex.{Regex}
use Rattle.se_outside.specs.Patterns.{IsBuiltFrom}
use Rattle.named_values.specs.Found.{is_found}
use Rattle.rule_criteria.specs.Modes.{is_pattern}
use Rattle.rule_criteria.specs.declared.Criterion.{Criterion}
use Rattle.rule_query.specs.declared.ends.Ends.{Ends}
use Rattle.rule_query.specs.declared.tests.Test.{Test}
use Rattle.rule_query.specs.declared.tests.Test.TheVariants as tests
use Rattle.rule_query.specs.GivenCriteria.{Given}
use Rattle.rule_query.specs.Ends.{is_meant, meets_type}
use Rattle.rule_query.specs.Refusals.{is_pattern_word}

-- ---- patterns

-- the pattern of a criterion, which was built where it is one
abbrev pub HasPattern : Criterion → Option Regex → Type 0
HasPattern criterion None = is_pattern criterion.mode ≡ false
HasPattern criterion (Some pattern) = (is_pattern criterion.mode ≡ true) × IsBuiltFrom criterion.text pattern

-- the pattern of a word, likewise
abbrev pub HasPatternWord : Given → Option Regex → Type 0
HasPatternWord given None = is_pattern_word given ≡ false
HasPatternWord given (Some pattern) = (is_pattern_word given ≡ true) × IsBuiltFrom given.criterion.text pattern

-- ---- ends

-- the map of a policy's types, where it was made
abbrev pub IsMapIfMade : Parts → Option Expansions → Type 0
IsMapIfMade policy None = ⊤
IsMapIfMade policy (Some map) = IsPolicyMap policy map

-- the ends that meet a criterion of ends
pub record AreEnds (policy : Parts) (criterion : Criterion) (ends : Ends) : Type 0 where
  pub types : (value : ℕ) → IsDeclaredIn policy.symbols Types value → has_bit ends.types value ≡ meets_type policy criterion value
  pub roles : (value : ℕ) → has_bit ends.roles value ≡ is_meant policy.symbols Roles criterion value

-- the ends that are meant themselves
pub record AreMeant (symbols : Symbols) (criterion : Criterion) (ends : Ends) : Type 0 where
  pub types : (value : ℕ) → has_bit ends.types value ≡ is_meant symbols Types criterion value
  pub roles : (value : ℕ) → has_bit ends.roles value ≡ is_meant symbols Roles criterion value

-- a name's expansion has a type
abbrev pub is_in_expansion : Parts → Option ℕ → ℕ → Bool
is_in_expansion policy None value = false
is_in_expansion policy (Some asked) value = list_any (nat_eq value) (expand policy asked)

abbrev pub is_asked_name : Parts → List ℕ → ℕ → Bool
is_asked_name policy name value = is_in_expansion policy (value_in policy.symbols Types name) value

-- a type is asked, by the pattern or by what the name expands to
abbrev pub is_asked_type : Parts → Criterion → ℕ → Bool
is_asked_type policy criterion value = if is_pattern criterion.mode then is_found policy.symbols Types criterion.text value else is_asked_name policy criterion.text value

-- ---- tests

-- a test looks at the whole rule, and not at its ends and its class alone
abbrev pub reads_rule : Test → Bool
reads_rule (tests.Source ends) = false
reads_rule (tests.Target ends) = false
reads_rule (tests.Class classes) = false
reads_rule (tests.Permissions test) = true
reads_rule (tests.Numbers test) = true
reads_rule (tests.Default ends) = true
reads_rule (tests.Condition nodes) = true
