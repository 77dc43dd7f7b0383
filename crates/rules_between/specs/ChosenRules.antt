-- Rules of a policy that were chosen by their numbers, and the types that they join.
use Rattle.std.specs.Prelude.{ℕ, Bool, ◌&&◌, List}
use Rattle.std.specs.List.{filter, list_any, range_with_len}
use Rattle.std.specs.List.Sorted.{IsPermutation}
use Rattle.pol_file.specs.declared.Parts.{Parts}
use Rattle.pol_expand.specs.JoinedTypes.{any_joins, holds_type, joins, rule_passes}
use Rattle.rule_order.specs.ListedOrder.{in_rule_order}

-- What a caller sees: a policy, and the numbers of the rules of it that were chosen.
pub record ChosenRules : Type 0 where
  pub policy : Parts
  pub rules : List ℕ

-- ---- between types

-- the rules that join two types, in the order in which rules are listed
abbrev pub rules_between : Parts → List ℕ → ℕ → ℕ → List ℕ
rules_between policy rules source target = in_rule_order policy (filter (joins policy source target) rules)

-- the types that the rules join to one of some targets, rising
unfoldable pub sources_to_any : Parts → List ℕ → List ℕ → List ℕ
sources_to_any policy rules targets = filter (λ source. list_any (any_joins policy rules source) targets) (range_with_len 1 policy.symbols.types.nprim)

-- the types that the rules and others join to one and the same of some targets, rising
unfoldable pub common_sources : Parts → List ℕ → List ℕ → List ℕ → List ℕ
common_sources policy rules others targets =
    filter (λ source. list_any (λ target. any_joins policy rules source target && any_joins policy others source target) targets) (range_with_len 1 policy.symbols.types.nprim)

-- ---- by one end alone

-- the source of the rule of a number expands to a type
unfoldable pub begins_at : Parts → ℕ → ℕ → Bool
begins_at policy source number = rule_passes policy (λ rule. holds_type policy rule.source source) number

-- so does its target
unfoldable pub ends_at : Parts → ℕ → ℕ → Bool
ends_at policy target number = rule_passes policy (λ rule. holds_type policy rule.target target) number

-- Of some rules, those whose source expands to a type, each as often as it is among them, in any order.
abbrev pub AreRulesFrom : Parts → List ℕ → ℕ → List ℕ → Type 0
AreRulesFrom policy rules source found = IsPermutation found (filter (begins_at policy source) rules)

-- the types that the targets of some rules expand to, rising
unfoldable pub targets_of_rules : Parts → List ℕ → List ℕ
targets_of_rules policy rules = filter (λ type. list_any (ends_at policy type) rules) (range_with_len 1 policy.symbols.types.nprim)
