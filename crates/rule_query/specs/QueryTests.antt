-- What a query of rules is compared with in place of the names of criteria: a test for each criterion, by sets of values; and the rules
-- that pass.
use Rattle.std.specs.Prelude.{ℕ, Bool, false, ◌&&◌, Option, Some, None, List, [], ◌∷◌}
use Rattle.std.specs.List.{list_all}
use Rattle.std.specs.Option.{option_or}
use Rattle.pol_fields.specs.declared.TableKind.{TableKind}
use Rattle.pol_fields.specs.declared.TableKind.TheVariants.{Roles}
use Rattle.pol_bitmap.specs.declared.Node.{Node}
use Rattle.pol_bitmap.specs.Nodes.{has_bit}
use Rattle.pol_symbols.specs.declared.Symbols.{Symbols}
use Rattle.pol_read.specs.declared.RuleKind.{RuleKind}
use Rattle.pol_read.specs.declared.RuleKind.TheVariants.{RoleAllow}
use Rattle.pol_read.specs.declared.RulePart.{RulePart}
use Rattle.pol_read.specs.declared.RulePart.TheVariants as parts
use Rattle.pol_read.specs.declared.Condition.{Condition}
use Rattle.pol_read.specs.RuleKinds.{default_table, source_table, target_table}
use Rattle.pol_read.specs.StoredRules.{StoredRule}
use Rattle.rule_query.specs.declared.ends.Ends.{Ends}
use Rattle.rule_query.specs.declared.given.Aspect.{Aspect}
use Rattle.rule_query.specs.declared.given.Aspect.TheVariants as aspects
use Rattle.rule_query.specs.declared.tests.Test.{Test}
use Rattle.rule_query.specs.declared.tests.Test.TheVariants as tests
use Rattle.rule_query.specs.declared.query.Query.{Query}
use Rattle.rule_tests.specs.AskedKinds.{is_kind_asked}
use Rattle.rule_tests.specs.PartTests.{numbers_test, permissions_test}

-- ---- a rule

-- a value of a table is among those that an end may have
abbrev pub has_end : Ends → TableKind → ℕ → Bool
has_end ends Roles value = has_bit ends.roles value
has_end ends table value = has_bit ends.types value

-- a role allow has no class
abbrev pub class_test : List Node → RuleKind → ℕ → Bool
class_test classes RoleAllow class = false
class_test classes other class = has_bit classes class

-- the default of a rule, where it has one
abbrev pub default_test : Ends → RuleKind → RulePart → Bool
default_test ends kind (parts.Default value) = has_end ends (default_table kind) value
default_test ends kind other = false

-- the node of the condition that a rule stands under
abbrev pub condition_test : List Node → Option Condition → Bool
condition_test nodes None = false
condition_test nodes (Some condition) = has_bit nodes condition.node

-- the rule passes a test
abbrev pub rule_test : Symbols → StoredRule → Test → Bool
rule_test symbols rule (tests.Source ends) = has_end ends (source_table rule.kind) rule.source
rule_test symbols rule (tests.Target ends) = has_end ends (target_table rule.kind) rule.target
rule_test symbols rule (tests.Class classes) = class_test classes rule.kind rule.class
rule_test symbols rule (tests.Permissions test) = permissions_test symbols test rule.class rule.part
rule_test symbols rule (tests.Numbers test) = numbers_test test rule.part
rule_test symbols rule (tests.Default ends) = default_test ends rule.kind rule.part
rule_test symbols rule (tests.Condition nodes) = condition_test nodes rule.condition

-- a rule is of a kind that is asked, and passes all tests
abbrev pub passes : Symbols → Query → StoredRule → Bool
passes symbols query rule = is_kind_asked query.kinds rule.kind && list_all (rule_test symbols rule) query.tests.items

-- ---- the ends that are asked

-- the types of a test of sources, and those of a test of targets
abbrev pub sources_of : Test → Option (List Node)
sources_of (tests.Source ends) = Some ends.types
sources_of other = None

abbrev pub targets_of : Test → Option (List Node)
targets_of (tests.Target ends) = Some ends.types
targets_of other = None

-- the types of a test of an end
abbrev pub types_of : Aspect → Test → Option (List Node)
types_of aspects.Source = sources_of
types_of aspects.Target = targets_of
types_of other = λ test. None

-- what the first of some things has that has any
abbrev pub first_of : {A B : Type 0} → (A → Option B) → List A → Option B
first_of f [] = None
first_of f (x ∷ xs) = option_or (f x) (first_of f xs)

-- the types that may be sources by the tests of a query, and those that may be targets
abbrev pub source_types : Query → Option (List Node)
source_types query = first_of sources_of query.tests.items

abbrev pub target_types : Query → Option (List Node)
target_types query = first_of targets_of query.tests.items
