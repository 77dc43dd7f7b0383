-- How strongly information flows by a rule, by the weights of a permission map (SETools' infoflow).
use Rattle.std.specs.Prelude.{ℕ, true, max, Option, Some, None, List, map}
use Rattle.std.specs.List.{filter, find, fold}
use Rattle.pol_cursor.specs.References.{Placed}
use Rattle.pol_symtab.specs.SymbolTables.{declares}
use Rattle.pol_commons.specs.declared.PermissionRec.{PermissionRec}
use Rattle.pol_commons.specs.Permissions.{has_permission}
use Rattle.pol_classes.specs.declared.ClassRec.{ClassRec}
use Rattle.pol_symbols.specs.declared.Symbols.{Symbols}
use Rattle.pol_symbols.specs.PolicySymbols.{permissions_of}
use Rattle.pol_read.specs.declared.RuleKind.{RuleKind}
use Rattle.pol_read.specs.declared.RuleKind.TheVariants.{Allow}
use Rattle.pol_read.specs.declared.RulePart.{RulePart}
use Rattle.pol_read.specs.declared.RulePart.TheVariants.{Perms}
use Rattle.pol_read.specs.StoredRules.{StoredRule}
use Rattle.perm_map.specs.declared.Direction.{Direction}
use Rattle.perm_map.specs.declared.Direction.TheVariants.{Read, Write, Both, No, Unmapped}
use Rattle.perm_map.specs.PermissionMap.{Weights}

-- the greatest of some numbers, or 0
abbrev pub greatest : List ℕ → ℕ
greatest numbers = fold max 0 numbers

-- ---- two ways of a rule

-- Information flows from the source to the target by what is mapped as a write, or as both.
abbrev pub outwards : Direction → ℕ → ℕ
outwards Write weight = weight
outwards Both weight = weight
outwards Read weight = 0
outwards No weight = 0
outwards Unmapped weight = 0

-- It flows from the target to the source by what is mapped as a read, or as both.
abbrev pub inwards : Direction → ℕ → ℕ
inwards Read weight = weight
inwards Both weight = weight
inwards Write weight = 0
inwards No weight = 0
inwards Unmapped weight = 0

-- what is not mapped does not flow
abbrev pub mapped : (Direction → ℕ → ℕ) → Option (Direction × ℕ) → ℕ
mapped way (Some weight) = way weight.0 weight.1
mapped way None = 0

-- ---- a rule

-- the weight of a permission of the class of a name
abbrev pub permission_weight : (Direction → ℕ → ℕ) → Weights → List ℕ → PermissionRec → ℕ
permission_weight way weights class permission = mapped way (weights class permission.name)

-- the greatest of a class's permissions that a mask has, where there is such a class
abbrev pub mask_weight : (Direction → ℕ → ℕ) → Weights → Symbols → Option (Placed ClassRec) → ℕ → ℕ
mask_weight way weights symbols None mask = 0
mask_weight way weights symbols (Some class) mask =
    greatest (map (permission_weight way weights class.value.name) (filter (has_permission mask) (permissions_of symbols class.value)))

-- the class of a value
abbrev pub class_of : Symbols → ℕ → Option (Placed ClassRec)
class_of symbols value = find (declares (λ class. true) (λ class. class.value) value) symbols.classes.records

-- Allow rules flow, and no others.
abbrev pub part_weight : (Direction → ℕ → ℕ) → Weights → Symbols → ℕ → RuleKind → RulePart → ℕ
part_weight way weights symbols class Allow (Perms mask) = mask_weight way weights symbols (class_of symbols class) mask
part_weight way weights symbols class kind part = 0

-- one way of a rule, whether it counts or not
unfoldable pub rule_weight : (Direction → ℕ → ℕ) → Weights → Symbols → StoredRule → ℕ
rule_weight way weights symbols rule = part_weight way weights symbols rule.class rule.kind rule.part
