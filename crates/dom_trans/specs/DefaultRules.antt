-- The rules that set the default domain of a new process, as the kernel asks for it when a process executes a file, and the analysis of
-- domain transitions of SETools after it.
use Rattle.std.specs.Prelude.{ℕ, Bool, true, false, ◌&&◌, ◌==◌, Option, Some, None, List}
use Rattle.pol_fields.specs.declared.TableKind.TheVariants.{Classes}
use Rattle.pol_symbols.specs.PolicySymbols.{value_in}
use Rattle.pol_file.specs.declared.Parts.{Parts}
use Rattle.pol_read.specs.declared.RuleKind.{RuleKind}
use Rattle.pol_read.specs.declared.RuleKind.TheVariants.{TypeTransition}
use Rattle.pol_read.specs.declared.RulePart.{RulePart}
use Rattle.pol_read.specs.declared.RulePart.TheVariants.{Default}
use Rattle.pol_read.specs.StoredRules.{StoredRule}
use Rattle.pol_expand.specs.JoinedTypes.{rule_passes}
use Rattle.counted_rules.specs.CountedRules.{Counted}
use Rattle.rule_grants.specs.Grants.{rules_that}
use Rattle.rule_grants.specs.Names.{process}

-- the value is that one
abbrev pub is_value : Option ℕ → ℕ → Bool
is_value None value = false
is_value (Some other) value = value == other

-- no file name
abbrev pub is_nameless : Option (List ℕ) → Bool
is_nameless None = true
is_nameless (Some name) = false

-- a type_transition without a file name, of a class, which the policy may lack: the kernel asks for the domain of a new process without
-- a name, where SETools takes rules with one too
abbrev pub kind_sets_default : RuleKind → Option (List ℕ) → Option ℕ → ℕ → Bool
kind_sets_default TypeTransition name class value = is_nameless name && is_value class value
kind_sets_default kind name class value = false

abbrev pub sets_default : Option ℕ → StoredRule → Bool
sets_default class rule = kind_sets_default rule.kind rule.name class rule.class

-- the rules that count and set the default domain of a new process
abbrev pub default_rules : Counted → List ℕ
default_rules rules = rules_that rules (sets_default (value_in rules.policy.symbols Classes process))

-- the default type of a rule is that one
abbrev pub part_has_default : ℕ → RulePart → Bool
part_has_default type (Default value) = value == type
part_has_default type part = false

-- the default type of the rule of a number is that one
unfoldable pub has_default : Parts → ℕ → ℕ → Bool
has_default policy type number = rule_passes policy (λ rule. part_has_default type rule.part) number
