-- What the rules of a policy that count grant to types, by the names of classes and permissions.
use Rattle.std.specs.Prelude.{ℕ, Bool, false, ◌&&◌, ◌==◌, Option, Some, None, List, length, option_map}
use Rattle.std.specs.List.{filter, range_with_len}
use Rattle.pol_fields.specs.declared.TableKind.TheVariants.{Classes}
use Rattle.pol_commons.specs.Permissions.{mask_has}
use Rattle.pol_symbols.specs.declared.Symbols.{Symbols}
use Rattle.pol_symbols.specs.PolicySymbols.{value_in, permission_value_in}
use Rattle.pol_read.specs.declared.RuleKind.{RuleKind}
use Rattle.pol_read.specs.declared.RuleKind.TheVariants.{Allow}
use Rattle.pol_read.specs.declared.RulePart.{RulePart}
use Rattle.pol_read.specs.declared.RulePart.TheVariants.{Perms}
use Rattle.pol_read.specs.StoredRules.{StoredRule, stored_rules}
use Rattle.pol_expand.specs.JoinedTypes.{rule_passes, any_joins}
use Rattle.counted_rules.specs.CountedRules.{Counted, counts}
use Rattle.rule_grants.specs.declared.permission.Permission.{Permission}

-- ---- the rules that count and pass a test

-- a rule does both
abbrev pub counts_and : Counted → (StoredRule → Bool) → StoredRule → Bool
counts_and rules test rule = counts rules rule && test rule

-- their numbers, rising
unfoldable pub rules_that : Counted → (StoredRule → Bool) → List ℕ
rules_that rules test = filter (rule_passes rules.policy (counts_and rules test)) (range_with_len 0 (length (stored_rules rules.policy)))

-- ---- permissions by name

-- the values of a permission of that name and of its class, where there is such a class
abbrev pub permission_of_class : Symbols → List ℕ → Option ℕ → Option Permission
permission_of_class symbols name None = None
permission_of_class symbols name (Some class) = option_map (λ value. record { class = class; value = value }) (permission_value_in symbols class name)

-- the values of a permission and its class, by their names; none where the policy lacks one of them
unfoldable pub permission_named : Symbols → List ℕ → List ℕ → Option Permission
permission_named symbols class name = permission_of_class symbols name (value_in symbols Classes class)

-- an allow rule of the class gives the permission: its mask has it
abbrev pub part_gives : Permission → RuleKind → ℕ → RulePart → Bool
part_gives permission Allow class (Perms mask) = (class == permission.class) && mask_has mask permission.value
part_gives permission kind class part = false

-- a rule gives a permission, which the policy may lack
abbrev pub gives : Option Permission → StoredRule → Bool
gives None rule = false
gives (Some permission) rule = part_gives permission rule.kind rule.class rule.part

-- the rules that count and give a permission of a class, by their names
abbrev pub granting_rules : Counted → List ℕ → List ℕ → List ℕ
granting_rules rules class name = rules_that rules (gives (permission_named rules.policy.symbols class name))

-- some rule that counts grants a permission of a class to a type, on another type
abbrev pub grants : Counted → ℕ → ℕ → List ℕ → List ℕ → Bool
grants rules source target class name = any_joins rules.policy (granting_rules rules class name) source target
