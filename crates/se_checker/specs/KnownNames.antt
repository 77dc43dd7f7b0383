-- The names of a checklist that a policy lacks: the list's first line with one of them.
use Rattle.std.specs.Prelude.{ℕ, Bool, true, false, ◌||◌, not, List, [], ◌∷◌, Option, Some, None, is_some, option_map, map, codes}
use Rattle.std.specs.List.{find, list_all, list_any}
use Rattle.std.specs.Option.{option_or}
use Rattle.std.specs.Str.{bytes_eq}
use Rattle.pol_fields.specs.declared.TableKind.TheVariants.{Classes, Types}
use Rattle.pol_commons.specs.declared.PermissionRec.{PermissionRec}
use Rattle.pol_datums.specs.declared.Flavour.TheVariants.{Attribute}
use Rattle.pol_symbols.specs.declared.Symbols.{Symbols}
use Rattle.pol_symbols.specs.PolicySymbols.{flavour_in, value_in}
use Rattle.pol_expand.specs.Flavours.{is_flavour}
use Rattle.check_list.specs.declared.CheckKey.{CheckKey}
use Rattle.check_list.specs.declared.CheckKey.TheVariants as keys
use Rattle.check_list.specs.declared.ListFault.{ListFault}
use Rattle.check_list.specs.declared.ListCause.TheVariants.{UnknownName}
use Rattle.check_list.specs.Checklists.{Check, Setting, fault_at, listed}

-- ---- permissions

abbrev pub has_name : List PermissionRec → List ℕ → Bool
has_name permissions name = list_any (bytes_eq name) (map (λ permission. permission.name) permissions)

-- a class or a common has a permission of that name
abbrev pub is_permission : Symbols → List ℕ → Bool
is_permission symbols name = list_any (λ class. has_name class.value.permissions name) symbols.classes.records || list_any (λ common. has_name common.value.permissions name) symbols.commons.records

-- ---- attributes

abbrev pub is_attribute_value : Symbols → Option ℕ → Bool
is_attribute_value symbols None = false
is_attribute_value symbols (Some value) = is_flavour Attribute (flavour_in symbols value)

-- ---- settings

-- the check may name attributes that the policy lacks
abbrev pub may_miss : Check → Bool
may_miss check = list_any (λ word. bytes_eq word (codes "true")) (listed check keys.MissingOk)

-- The policy has the name: a class, a permission or an attribute where the key asks for one, and else a type, an attribute or an alias.
abbrev pub is_known : Symbols → Bool → CheckKey → List ℕ → Bool
is_known symbols missing keys.Class name = is_some (value_in symbols Classes name)
is_known symbols missing keys.Perms name = is_permission symbols name
is_known symbols missing keys.Attr name = missing || is_attribute_value symbols (value_in symbols Types name)
is_known symbols missing keys.MissingOk name = true
is_known symbols missing key name = is_some (value_in symbols Types name)

abbrev pub has_unknown : Symbols → Bool → Setting → Bool
has_unknown symbols missing setting = not (list_all (is_known symbols missing setting.key) setting.values)

-- the first line of a check with a name that the policy lacks
abbrev pub unknown_in : Symbols → Check → Option ℕ
unknown_in symbols check = option_map (λ setting. setting.line) (find (has_unknown symbols (may_miss check)) check.settings)

-- the first line of a list
abbrev pub first_unknown : Symbols → List Check → Option ℕ
first_unknown symbols [] = None
first_unknown symbols (check ∷ checks) = option_or (unknown_in symbols check) (first_unknown symbols checks)

-- as a fault
abbrev pub unknown_name : Symbols → List Check → Option ListFault
unknown_name symbols checks = option_map (λ line. fault_at line UnknownName) (first_unknown symbols checks)
