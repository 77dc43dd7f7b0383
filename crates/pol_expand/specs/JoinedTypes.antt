-- Which types the stored rules of a policy join, by what the ends of the rules expand to.
use Rattle.std.specs.Prelude.{ℕ, Bool, false, true, ◌&&◌, Option, Some, None, List, slice_get}
use Rattle.std.specs.List.{filter, list_any, range_with_len}
use Rattle.pol_file.specs.declared.Parts.{Parts}
use Rattle.pol_read.specs.declared.RuleKind.{RuleKind}
use Rattle.pol_read.specs.declared.RuleKind.TheVariants.{RoleAllow, RoleTransition}
use Rattle.pol_read.specs.StoredRules.{StoredRule, stored_rules}
use Rattle.pol_expand.specs.PolicyMap.{expand}
use Rattle.value_groups.specs.Among.{is_among}

-- ---- a stored rule by its number

-- a rule is there and passes a test
abbrev pub passes : (StoredRule → Bool) → Option StoredRule → Bool
passes test None = false
passes test (Some rule) = test rule

-- the stored rule of a number passes a test
abbrev pub rule_passes : Parts → (StoredRule → Bool) → ℕ → Bool
rule_passes policy test number = passes test (slice_get (stored_rules policy) number)

-- the ends of the rules of a kind are types and attributes; roles are both ends of a role allow, and the source of a role transition
abbrev pub has_type_ends : RuleKind → Bool
has_type_ends RoleAllow = false
has_type_ends RoleTransition = false
has_type_ends other = true

-- the stored rule of a number has such ends
abbrev pub is_between_types : Parts → ℕ → Bool
is_between_types policy number = rule_passes policy (λ rule. has_type_ends rule.kind) number

-- ---- the types that rules join

-- a value expands to a type, among others or alone
unfoldable pub holds_type : Parts → ℕ → ℕ → Bool
holds_type policy value type = is_among (expand policy value) type

-- the source of a rule expands to the one type, and its target to the other
abbrev pub is_rule_from_to : Parts → ℕ → ℕ → StoredRule → Bool
is_rule_from_to policy source target rule = holds_type policy rule.source source && holds_type policy rule.target target

-- so do the ends of the stored rule of a number
unfoldable pub joins : Parts → ℕ → ℕ → ℕ → Bool
joins policy source target number = rule_passes policy (is_rule_from_to policy source target) number

-- one of the rules joins two types
abbrev pub any_joins : Parts → List ℕ → ℕ → ℕ → Bool
any_joins policy rules source target = list_any (joins policy source target) rules

-- the types that the rules join a source to, rising
unfoldable pub targets_from : Parts → List ℕ → ℕ → List ℕ
targets_from policy rules source = filter (any_joins policy rules source) (range_with_len 1 policy.symbols.types.nprim)

-- the types that the rules join to a target, rising
unfoldable pub sources_to : Parts → List ℕ → ℕ → List ℕ
sources_to policy rules target = filter (λ source. any_joins policy rules source target) (range_with_len 1 policy.symbols.types.nprim)
