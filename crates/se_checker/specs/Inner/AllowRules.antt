-- The allow rules of a policy, class by class, as checks look at them. It serves the code alone.
use Rattle.std.specs.Prelude.{◌≡◌, ℕ, ◌<◌, ◌==◌, Option, Some, None, List, [], length, map, slice_get, slice_index_or, unwrap_or}
use Rattle.std.specs.List.{All, filter, range_with_len}
use Rattle.pol_fields.specs.declared.TableKind.TheVariants.{Classes}
use Rattle.pol_symbols.specs.declared.Symbols.{Symbols}
use Rattle.pol_symbols.specs.PolicySymbols.{index_in}
use Rattle.pol_file.specs.declared.Parts.{Parts}
use Rattle.pol_read.specs.StoredRules.{StoredRule, stored_rules}
use Rattle.se_checker.specs.declared.allow_rules.AllowRule.{AllowRule}
use Rattle.se_checker.specs.Verdicts.{allow_mask}

-- ---- the class of a rule, by its place in the file

-- the place of an allow rule; other rules, and classes that the policy lacks, have the place past the last
abbrev pub place_given : Option ℕ → Option ℕ → ℕ → ℕ
place_given None place count = count
place_given (Some mask) place count = unwrap_or place count

abbrev pub place_of_rule : Symbols → StoredRule → ℕ
place_of_rule symbols rule = place_given (allow_mask rule.kind rule.part) (index_in symbols Classes rule.class) (length symbols.classes.records)

abbrev pub place_found : Symbols → Option StoredRule → ℕ
place_found symbols None = length symbols.classes.records
place_found symbols (Some rule) = place_of_rule symbols rule

unfoldable pub class_place : Parts → ℕ → ℕ
class_place policy number = place_found policy.symbols (slice_get (stored_rules policy) number)

-- ---- rules

-- It is an allow rule of the class of a place.
pub record IsAllowRule (policy : Parts) (place : ℕ) (allowed : AllowRule) : Type 0 where
  pub rule : StoredRule
  pub at : slice_get (stored_rules policy) allowed.number ≡ Some rule
  pub given : allow_mask rule.kind rule.part ≡ Some allowed.mask
  pub source : rule.source ≡ allowed.source
  pub target : rule.target ≡ allowed.target
  pub class : index_in policy.symbols Classes rule.class ≡ Some place

-- the rules of the class of a place
abbrev pub rules_in : List (List AllowRule) → ℕ → List AllowRule
rules_in classes place = slice_index_or classes place []

-- They are those of the class of a place among the first so many rules.
pub record AreOfClass (policy : Parts) (count place : ℕ) (rules : List AllowRule) : Type 0 where
  pub numbers : map (λ allowed. allowed.number) rules ≡ filter (λ number. class_place policy number == place) (range_with_len 0 count)
  pub are : All (IsAllowRule policy place) rules

-- Among the first so many rules, they are the allow rules of each class.
pub record AreAllowed (policy : Parts) (count : ℕ) (classes : List (List AllowRule)) : Type 0 where
  pub long : length classes ≡ length policy.symbols.classes.records
  pub each : (place : ℕ) → place < length classes → AreOfClass policy count place (rules_in classes place)

-- They are all allow rules of the policy, class by class.
abbrev pub AreAllowRules : Parts → List (List AllowRule) → Type 0
AreAllowRules policy classes = AreAllowed policy (length (stored_rules policy)) classes
