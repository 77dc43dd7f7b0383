-- The readers of the header, of bitmaps, of expressions, of MLS and of the records of symbol tables look at no byte behind their values.
use Rattle.std.proofs.Common.{ℕ, Bool, Option, None, ◌==◌, List, []}
use Rattle.pol_fields.specs.declared.field.Field.{Field}
use Rattle.pol_fields.specs.declared.fields.TheConstants.{CLASS_DEFAULT_USER, CLASS_DEFAULT_ROLE, CLASS_DEFAULT_RANGE, CLASS_DEFAULT_TYPE}
use Rattle.pol_file.specs.HeaderRecord.{identity_at, counts_at, header_at}
use Rattle.pol_bitmap.specs.Bitmap.{node_at, nodes_at, floor_after, bitmap_at}
use Rattle.pol_expr.specs.ConditionRecord as condition
use Rattle.pol_constraints.specs.ConstraintRecord as constraint
use Rattle.pol_mls.specs.LevelRecord.{level_at}
use Rattle.pol_mls.specs.RangeRecord.{range_at}
use Rattle.pol_symtab.specs.Claims.{Claims}
use Rattle.pol_symtab.specs.SymbolFields.{symbol_length_at, symbol_name_at}
use Rattle.pol_symtab.specs.SymbolTables.{Table}
use Rattle.pol_commons.specs.declared.PermissionRec.{PermissionRec}
use Rattle.pol_commons.specs.declared.CommonRec.{CommonRec}
use Rattle.pol_commons.specs.PermissionRecord.{permission_value_at, permission_at}
use Rattle.pol_commons.specs.Permissions.{with_permission, permissions_at}
use Rattle.pol_commons.specs.CommonRecord.{common_at}
use Rattle.pol_datums.specs.SymbolValues.{value_at, new_value_at, bounds_at}
use Rattle.pol_datums.specs.Flags.{flag_at}
use Rattle.pol_datums.specs.RoleRecord.{role_at}
use Rattle.pol_datums.specs.TypeRecord.{type_at}
use Rattle.pol_datums.specs.BooleanRecord.{boolean_at}
use Rattle.pol_datums.specs.SensitivityRecord.{sens_at, sensitivity_at}
use Rattle.pol_datums.specs.CategoryRecord.{category_at}
use Rattle.pol_classes.specs.ClassRecord.{common_name_at, head_at, default_at, class_at}
use Rattle.pol_symbols.specs.UserRecord.{user_at}
use Rattle.pol_write.proofs.CutParts.{IsLocal, local-done, local-then, local-number, local-number_if, local-string_if, local-list_of, local-records, local-counted, local-optional}

-- ---- the header

identity_local : IsLocal identity_at
unfolding identity_at
identity_local =
    local-then (local-number_if _ 4 _) λ magic.
    local-then (local-number_if _ 4 _) λ len.
    local-then (local-string_if _ 8 _) λ id.
    local-done tt

counts_local : (version : ℕ) → IsLocal (counts_at version)
unfolding counts_at
counts_local version =
    local-then (local-number_if _ 4 _) λ symbol_tables.
    local-then (local-number_if _ 4 _) λ context_tables.
    local-done tt

pub header_local : IsLocal header_at
unfolding header_at
header_local =
    local-then identity_local λ identified.
    local-then (local-number_if _ 4 _) λ version.
    local-then (local-number_if _ 4 _) λ config.
    local-then (counts_local version) λ counted.
    local-done _

-- ---- bitmaps

node_local : (limit : Option ℕ) (highbit left floor : ℕ) → IsLocal (node_at limit highbit left floor)
unfolding node_at
node_local limit highbit left floor =
    local-then (local-number_if _ 4 _) λ start.
    local-then (local-number_if _ 8 _) λ map.
    local-done _

nodes_local : (limit : Option ℕ) (highbit count : ℕ) → IsLocal (nodes_at limit highbit count)
unfolding nodes_at
nodes_local limit highbit count = local-list_of (node_at limit highbit) floor_after (node_local limit highbit) count 0

pub bitmap_local : (limit : Option ℕ) → IsLocal (bitmap_at limit)
unfolding bitmap_at
bitmap_local limit =
    local-then (local-number_if _ 4 _) λ unit.
    local-then (local-number_if _ 4 _) λ highbit.
    local-then (local-number_if _ 4 _) λ count.
    nodes_local limit highbit count

-- ---- conditions and constraints

condition_item_local : (left values : ℕ) → IsLocal (condition.item_at left values)
unfolding condition.item_at
condition_item_local left values =
    local-then (local-number_if _ 4 _) λ kind.
    local-then (local-number _ 4) λ boolean.
    local-done _

condition_items_local : (count : ℕ) → IsLocal (condition.items_at count)
unfolding condition.items_at
condition_items_local count = local-list_of condition.item_at condition.values_after_item condition_item_local count 0

pub condition_local : IsLocal condition.condition_at
unfolding condition.condition_at
condition_local =
    local-then (local-number _ 4) λ state.
    local-then (local-number_if _ 4 _) λ count.
    local-then (condition_items_local count) λ items.
    local-done _

type_set_local : IsLocal constraint.type_set_at
unfolding constraint.type_set_at
type_set_local =
    local-then (bitmap_local None) λ types.
    local-then (bitmap_local None) λ negated.
    local-then (local-number _ 4) λ flags.
    local-done _

sets_local : (version kind : ℕ) → IsLocal (constraint.sets_at version kind)
unfolding constraint.sets_at
sets_local version kind =
    local-then (local-optional (constraint.has_names kind) (bitmap_local None)) λ names.
    local-then (local-optional (constraint.has_type_set version kind) type_set_local) λ type_set.
    local-done _

constraint_item_local : (version : ℕ) (xtarget : Bool) (left values : ℕ) → IsLocal (constraint.item_at version xtarget left values)
unfolding constraint.item_at
constraint_item_local version xtarget left values =
    local-then (local-number_if _ 4 _) λ kind.
    local-then (local-number_if _ 4 _) λ attr.
    local-then (local-number_if _ 4 _) λ op.
    local-then (sets_local version kind) λ sets.
    local-done _

constraint_items_local : (version : ℕ) (xtarget : Bool) (count : ℕ) → IsLocal (constraint.items_at version xtarget count)
unfolding constraint.items_at
constraint_items_local version xtarget count = local-list_of (constraint.item_at version xtarget) constraint.values_after_item (constraint_item_local version xtarget) count 0

pub constraint_local : (version : ℕ) (xtarget : Bool) → IsLocal (constraint.constraint_at version xtarget)
unfolding constraint.constraint_at
constraint_local version xtarget =
    local-then (local-number _ 4) λ permissions.
    local-then (local-number_if _ 4 _) λ count.
    local-then (constraint_items_local version xtarget count) λ items.
    local-done _

-- ---- MLS

pub level_local : IsLocal level_at
unfolding level_at
level_local =
    local-then (local-number _ 4) λ sens.
    local-then (bitmap_local None) λ categories.
    local-done _

pub range_local : IsLocal range_at
unfolding range_at
range_local =
    local-then (local-number_if _ 4 _) λ n.
    local-then (local-number _ 4) λ low.
    local-then (local-optional (n == 2) (local-number _ 4)) λ high.
    local-then (bitmap_local None) λ low_categories.
    local-then (local-optional (n == 2) (bitmap_local None)) λ high_categories.
    local-done _

-- ---- the parts of symbols

symbol_length_local : (field : Field) → IsLocal (symbol_length_at field)
unfolding symbol_length_at
symbol_length_local field = local-number_if _ 4 _

symbol_name_local : (field : Field) (claims : Claims) (len : ℕ) → IsLocal (symbol_name_at field claims len)
unfolding symbol_name_at
symbol_name_local field claims len = local-string_if _ len _

value_local : (field : Field) (nprim : ℕ) → IsLocal (value_at field nprim)
unfolding value_at
value_local field nprim = local-number_if _ 4 _

new_value_local : (field : Field) (nprim : ℕ) (claims : Claims) → IsLocal (new_value_at field nprim claims)
unfolding new_value_at
new_value_local field nprim claims = local-number_if _ 4 _

bounds_local : (field : Field) → IsLocal (bounds_at field)
unfolding bounds_at
bounds_local field = local-number _ 4

flag_local : (field : Field) → IsLocal (flag_at field)
unfolding flag_at
flag_local field = local-number_if _ 4 _

-- ---- permissions and commons

permission_value_local : (claims : Claims) → IsLocal (permission_value_at claims)
unfolding permission_value_at
permission_value_local claims = local-number_if _ 4 _

permission_local : (listed inherited : List PermissionRec) → IsLocal (permission_at listed inherited)
unfolding permission_at
permission_local listed inherited =
    local-then (symbol_length_local _) λ len.
    local-then (permission_value_local _) λ value.
    local-then (symbol_name_local _ _ len) λ name.
    local-done _

permissions_local : (inherited : List PermissionRec) (n : ℕ) → IsLocal (permissions_at inherited n)
unfolding permissions_at
permissions_local inherited n = local-list_of (λ left listed. permission_at listed inherited) with_permission (λ left listed. permission_local listed inherited) n []

pub common_local : (taken : Claims) (nprim : ℕ) → IsLocal (common_at taken nprim)
unfolding common_at
common_local taken nprim =
    local-then (symbol_length_local _) λ len.
    local-then (local-number_if _ 4 _) λ value.
    local-then (local-number_if _ 4 _) λ own_nprim.
    local-then (local-number _ 4) λ count.
    local-then (symbol_name_local _ taken len) λ name.
    local-then (permissions_local [] count) λ permissions.
    local-done _

-- ---- classes

common_name_local : (commons : Table CommonRec) (len : ℕ) → IsLocal (common_name_at commons len)
unfolding common_name_at
common_name_local commons len = local-string_if _ len _

head_local : (taken : Claims) (nprim : ℕ) (commons : Table CommonRec) → IsLocal (head_at taken nprim commons)
unfolding head_at
head_local taken nprim commons =
    local-then (symbol_length_local _) λ len.
    local-then (local-number _ 4) λ common_len.
    local-then (local-number_if _ 4 _) λ value.
    local-then (local-number_if _ 4 _) λ own_nprim.
    local-then (local-number _ 4) λ nel.
    local-then (local-number _ 4) λ ncons.
    local-then (symbol_name_local _ taken len) λ name.
    local-then (common_name_local commons common_len) λ common.
    local-done _

default_local : (field : Field) (most : ℕ) → IsLocal (default_at field most)
unfolding default_at
default_local field most = local-number_if _ 4 _

pub class_local : (version : ℕ) (taken : Claims) (nprim : ℕ) (commons : Table CommonRec) → IsLocal (class_at version taken nprim commons)
unfolding class_at
class_local version taken nprim commons =
    local-then (head_local taken nprim commons) λ head.
    local-then (permissions_local _ head.nel) λ permissions.
    local-then (local-records (constraint_local version _) head.ncons) λ constraints.
    local-then (local-counted (constraint_local version _) _) λ validatetrans.
    local-then (default_local CLASS_DEFAULT_USER 2) λ default_user.
    local-then (default_local CLASS_DEFAULT_ROLE 2) λ default_role.
    local-then (default_local CLASS_DEFAULT_RANGE 7) λ default_range.
    local-then (default_local CLASS_DEFAULT_TYPE 2) λ default_type.
    local-done _

-- ---- the other symbols

pub role_local : (claims : Claims) (nprim : ℕ) → IsLocal (role_at claims nprim)
unfolding role_at
role_local claims nprim =
    local-then (symbol_length_local _) λ len.
    local-then (new_value_local _ nprim claims) λ value.
    local-then (bounds_local _) λ bounds.
    local-then (symbol_name_local _ claims len) λ name.
    local-then (bitmap_local None) λ dominates.
    local-then (bitmap_local None) λ types.
    local-done _

pub type_local : (claims : Claims) (nprim : ℕ) → IsLocal (type_at claims nprim)
unfolding type_at
type_local claims nprim =
    local-then (symbol_length_local _) λ len.
    local-then (value_local _ nprim) λ value.
    local-then (local-number_if _ 4 _) λ properties.
    local-then (bounds_local _) λ bounds.
    local-then (symbol_name_local _ claims len) λ name.
    local-done _

pub user_local : (claims : Claims) (nprim : ℕ) → IsLocal (user_at claims nprim)
unfolding user_at
user_local claims nprim =
    local-then (symbol_length_local _) λ len.
    local-then (new_value_local _ nprim claims) λ value.
    local-then (bounds_local _) λ bounds.
    local-then (symbol_name_local _ claims len) λ name.
    local-then (bitmap_local None) λ roles.
    local-then range_local λ range.
    local-then level_local λ level.
    local-done _

pub boolean_local : (claims : Claims) (nprim : ℕ) → IsLocal (boolean_at claims nprim)
unfolding boolean_at
boolean_local claims nprim =
    local-then (new_value_local _ nprim claims) λ value.
    local-then (flag_local _) λ state.
    local-then (symbol_length_local _) λ len.
    local-then (symbol_name_local _ claims len) λ name.
    local-done _

sens_local : (nprim : ℕ) (claims : Claims) (isalias : ℕ) → IsLocal (sens_at nprim claims isalias)
unfolding sens_at
sens_local nprim claims isalias = local-number_if _ 4 _

pub sensitivity_local : (claims : Claims) (nprim : ℕ) → IsLocal (sensitivity_at claims nprim)
unfolding sensitivity_at
sensitivity_local claims nprim =
    local-then (symbol_length_local _) λ len.
    local-then (flag_local _) λ isalias.
    local-then (symbol_name_local _ claims len) λ name.
    local-then (sens_local nprim claims isalias) λ sens.
    local-then (bitmap_local None) λ categories.
    local-done _

pub category_local : (claims : Claims) (nprim : ℕ) → IsLocal (category_at claims nprim)
unfolding category_at
category_local claims nprim =
    local-then (symbol_length_local _) λ len.
    local-then (value_local _ nprim) λ value.
    local-then (local-number_if _ 4 _) λ isalias.
    local-then (symbol_name_local _ claims len) λ name.
    local-done _
