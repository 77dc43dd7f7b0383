-- Records that are read have no wrong optional part.
use Rattle.std.proofs.Common.{◌≡◌, ℕ, ◌==◌, Bool, true, false, Option, Some, None, List, refl}
use Rattle.std.specs.Prelude.{is_some}
use Rattle.pol_fields.specs.declared.field.Field.{Field}
use Rattle.pol_fields.specs.declared.fields.TheConstants.{CLASS_DEFAULT_USER, CLASS_DEFAULT_ROLE, CLASS_DEFAULT_RANGE, CLASS_DEFAULT_TYPE, CONSTRAINT_FLAGS, USER_LEN, USER_VALUE, USER_BOUNDS, USER_NAME, RANGE_HIGH, AV_XKIND, FSUSE_LEN, FSUSE_NAME, IBENDPORT_LEN, IBENDPORT_NAME, GENFS_LEN, GENFS_FSTYPE, GENFS_PATHLEN, GENFS_PATH}
use Rattle.pol_cursor.specs.Parts.{number, number_if, string}
use Rattle.pol_cursor.specs.FileNames.{name_at, name_length_at, name_bytes_at}
use Rattle.pol_bitmap.specs.declared.Node.{Node}
use Rattle.pol_bitmap.specs.Bitmap.{bitmap_at}
use Rattle.pol_mls.specs.LevelRecord.{level_at}
use Rattle.pol_mls.specs.RangeRecord.{range_at, level_of}
use Rattle.pol_constraints.specs.ConstraintRecord.{has_names, has_type_set, type_set_at, sets_at, item_at, items_at, values_after_item, constraint_at}
use Rattle.pol_symtab.specs.Claims.{Claims}
use Rattle.pol_symtab.specs.Inner.Freshness.{Gives}
use Rattle.pol_symtab.proofs.FreshRecords.{Gives-part, Gives-any, Gives-done}
use Rattle.pol_symtab.specs.SymbolTables.{Table}
use Rattle.pol_commons.specs.declared.CommonRec.{CommonRec}
use Rattle.pol_commons.specs.CommonTable.{inherited_from}
use Rattle.pol_commons.specs.Permissions.{permissions_at}
use Rattle.pol_symtab.specs.SymbolFields.{symbol_length_at, symbol_name_at}
use Rattle.pol_datums.specs.SymbolValues.{new_value_at, bounds_at}
use Rattle.pol_expr.specs.ConditionRecord.{condition_at}
use Rattle.pol_classes.specs.ClassRecord.{head_at, default_at, class_at}
use Rattle.pol_symbols.specs.UserRecord.{user_at}
use Rattle.pol_avtab.specs.declared.AvKey.{AvKey}
use Rattle.pol_avtab.specs.XPerms.{xperms_of}
use Rattle.pol_avtab.specs.AvRecord.{is_extended, extended_at, data_at, part_at, av_at}
use Rattle.pol_conditionals.specs.CondNodeRecord.{condnode_at}
use Rattle.pol_trans.specs.RangeTransRecord.{range_trans_at}
use Rattle.pol_mls.specs.ContextRecord.{context_at}
use Rattle.pol_contexts.specs.SidRecord.{sid_at}
use Rattle.pol_contexts.specs.NamedRecord.{named_at}
use Rattle.pol_contexts.specs.PortRecord.{port_at}
use Rattle.pol_contexts.specs.AddressRecord.{address_at}
use Rattle.pol_contexts.specs.FsUseRecord.{behaviour_at, fsuse_at}
use Rattle.pol_contexts.specs.IbPkeyRecord.{ibpkey_at}
use Rattle.pol_contexts.specs.IbEndPortRecord.{ibendport_at}
use Rattle.pol_genfs.specs.GenfsRecord.{path_at, genfs_at}
use Rattle.pol_file.proofs.ReadValues.{gives-others}
use Rattle.pol_tree.specs.RecordShapes.{shape_of_range, shape_of_item, shape_of_constraint, shape_of_class, shape_of_user, shape_of_av, shape_of_condnode, shape_of_range_trans, shape_of_context, shape_of_sid, shape_of_named, shape_of_port, shape_of_address, shape_of_fsuse, shape_of_ibpkey, shape_of_ibendport, shape_of_path, shape_of_genfs}
use Rattle.pol_tree.proofs.Wrongs.{none-first, none-last}
use Rattle.pol_write.proofs.ShapedParts.{IsShaped, part_shaped, gives-optional, shaped-list_of, shaped-records_at, shaped-counted}

-- ---- a range

-- a high level comes with both of its parts
level_there : (there : Bool) (sens : Option ℕ) (categories : Option (List Node)) → is_some sens ≡ there → is_some categories ≡ there → is_some (level_of sens categories) ≡ there
level_there there (Some n) (Some nodes) e f = f
level_there there (Some n) None e f = f
level_there there None categories e f = e

pub range_shaped : IsShaped range_at shape_of_range
unfolding range_at
range_shaped =
    gives-others (number_if _ 4 _) λ n.
    gives-others (number _ 4) λ low.
    Gives-part (gives-optional (n == 2) (Gives-any (number _ 4))) λ high high-there.
    gives-others (bitmap_at None) λ low_categories.
    Gives-part (gives-optional (n == 2) (Gives-any (bitmap_at None))) λ high_categories high_categories-there.
    Gives-done _ _ (part_shaped (n == 2) (level_of high high_categories) RANGE_HIGH (level_there (n == 2) high high_categories high-there.0 high_categories-there.0))

-- ---- symbols

sets_shaped : (version kind : ℕ) → Gives (sets_at version kind) (λ sets. (is_some sets.0 ≡ has_names kind) × (is_some sets.1 ≡ has_type_set version kind))
unfolding sets_at
sets_shaped version kind =
    Gives-part (gives-optional (has_names kind) (Gives-any (bitmap_at None))) λ names names-there.
    Gives-part (gives-optional (has_type_set version kind) (Gives-any type_set_at)) λ type_set type_set-there.
    Gives-done _ (names, type_set) (names-there.0, type_set-there.0)

item_shaped : (version : ℕ) (xtarget : Bool) (left values : ℕ) → IsShaped (item_at version xtarget left values) (shape_of_item version)
unfolding item_at
item_shaped version xtarget left values =
    gives-others (number_if _ 4 _) λ kind.
    gives-others (number_if _ 4 _) λ attr.
    gives-others (number_if _ 4 _) λ op.
    Gives-part (sets_shaped version kind) λ sets sets-there.
    Gives-done _ _
    (none-first _ _ (part_shaped (has_names kind) sets.0 CONSTRAINT_FLAGS sets-there.0)
    (none-first _ _ (part_shaped (has_type_set version kind) sets.1 CONSTRAINT_FLAGS sets-there.1)
    none-last))

constraint_shaped : (version : ℕ) (xtarget : Bool) → IsShaped (constraint_at version xtarget) (shape_of_constraint version)
unfolding constraint_at items_at
constraint_shaped version xtarget =
    gives-others (number _ 4) λ permissions.
    gives-others (number_if _ 4 _) λ count.
    Gives-part (shaped-list_of (item_at version xtarget) values_after_item (shape_of_item version) (item_shaped version xtarget) count 0) λ items items-shaped.
    Gives-done _ _ items-shaped

pub class_shaped : (version : ℕ) (taken : Claims) (nprim : ℕ) (commons : Table CommonRec) → IsShaped (class_at version taken nprim commons) (shape_of_class version)
unfolding class_at
class_shaped version taken nprim commons =
    gives-others (head_at taken nprim commons) λ head.
    gives-others (permissions_at (inherited_from commons head.common) head.nel) λ permissions.
    Gives-part (shaped-records_at _ _ (constraint_shaped version false) head.ncons) λ constraints constraints-shaped.
    Gives-part (shaped-counted _ (constraint_shaped version true)) λ validatetrans validatetrans-shaped.
    gives-others (default_at CLASS_DEFAULT_USER 2) λ default_user.
    gives-others (default_at CLASS_DEFAULT_ROLE 2) λ default_role.
    gives-others (default_at CLASS_DEFAULT_RANGE 7) λ default_range.
    gives-others (default_at CLASS_DEFAULT_TYPE 2) λ default_type.
    Gives-done _ _ (none-first _ _ constraints-shaped (none-first _ _ validatetrans-shaped none-last))

pub user_shaped : (taken : Claims) (nprim : ℕ) → IsShaped (user_at taken nprim) shape_of_user
unfolding user_at
user_shaped taken nprim =
    gives-others (symbol_length_at USER_LEN) λ len.
    gives-others (new_value_at USER_VALUE nprim taken) λ value.
    gives-others (bounds_at USER_BOUNDS) λ bounds.
    gives-others (symbol_name_at USER_NAME taken len) λ name.
    gives-others (bitmap_at None) λ roles.
    Gives-part range_shaped λ range range-shaped.
    gives-others level_at λ level.
    Gives-done _ _ range-shaped

-- ---- rules

extended_there : Gives extended_at (λ part. is_some (xperms_of part) ≡ true)
unfolding extended_at
extended_there =
    gives-others (number_if _ 1 _) λ xkind.
    gives-others (number _ 1) λ driver.
    gives-others (string _ 32) λ bits.
    Gives-done _ _ refl

data_there : Gives data_at (λ part. is_some (xperms_of part) ≡ false)
unfolding data_at
data_there =
    gives-others (number _ 4) λ mask.
    Gives-done _ _ refl

part_there : (extended : Bool) → Gives (part_at extended) (λ part. is_some (xperms_of part) ≡ extended)
unfolding part_at
part_there true = extended_there
part_there false = data_there

pub av_shaped : (version : ℕ) (earlier : Option (List AvKey)) → IsShaped (av_at version earlier) shape_of_av
unfolding av_at
av_shaped version earlier =
    gives-others (number _ 2) λ source.
    gives-others (number _ 2) λ target.
    gives-others (number _ 2) λ class.
    gives-others (number_if _ 2 _) λ specified.
    Gives-part (part_there (is_extended specified)) λ part there.
    Gives-done _ _ (part_shaped (is_extended specified) (xperms_of part) AV_XKIND there)

pub condnode_shaped : (version : ℕ) → IsShaped (condnode_at version) shape_of_condnode
unfolding condnode_at
condnode_shaped version =
    gives-others condition_at λ condition.
    Gives-part (shaped-counted _ (av_shaped version None)) λ true_rules true_rules-shaped.
    Gives-part (shaped-counted _ (av_shaped version None)) λ false_rules false_rules-shaped.
    Gives-done _ _ (none-first _ _ true_rules-shaped (none-first _ _ false_rules-shaped none-last))

pub range_trans_shaped : IsShaped range_trans_at shape_of_range_trans
unfolding range_trans_at
range_trans_shaped =
    gives-others (number _ 4) λ source.
    gives-others (number _ 4) λ target.
    gives-others (number _ 4) λ class.
    Gives-part range_shaped λ range range-shaped.
    Gives-done _ _ range-shaped

-- ---- contexts

context_shaped : IsShaped context_at shape_of_context
unfolding context_at
context_shaped =
    gives-others (number _ 4) λ user.
    gives-others (number _ 4) λ role.
    gives-others (number _ 4) λ type_value.
    Gives-part range_shaped λ range range-shaped.
    Gives-done _ _ range-shaped

pub sid_shaped : IsShaped sid_at shape_of_sid
unfolding sid_at
sid_shaped =
    gives-others (number _ 4) λ sid.
    Gives-part context_shaped λ context context-shaped.
    Gives-done _ _ context-shaped

pub named_shaped : (len_field name_field : Field) → IsShaped (named_at len_field name_field) shape_of_named
unfolding named_at
named_shaped len_field name_field =
    gives-others (name_at len_field name_field) λ name.
    Gives-part context_shaped λ context context-shaped.
    Gives-part context_shaped λ second_context second_context-shaped.
    Gives-done _ _ (none-first _ _ context-shaped (none-first _ _ second_context-shaped none-last))

pub port_shaped : IsShaped port_at shape_of_port
unfolding port_at
port_shaped =
    gives-others (number _ 4) λ protocol.
    gives-others (number _ 4) λ low.
    gives-others (number _ 4) λ high.
    Gives-part context_shaped λ context context-shaped.
    Gives-done _ _ context-shaped

pub address_shaped : (address_field mask_field : Field) (width : ℕ) → IsShaped (address_at address_field mask_field width) (shape_of_address {width = width})
unfolding address_at
address_shaped address_field mask_field width =
    gives-others (string _ width) λ address.
    gives-others (string _ width) λ mask.
    Gives-part context_shaped λ context context-shaped.
    Gives-done _ _ context-shaped

pub fsuse_shaped : IsShaped fsuse_at shape_of_fsuse
unfolding fsuse_at
fsuse_shaped =
    gives-others behaviour_at λ behaviour.
    gives-others (name_at FSUSE_LEN FSUSE_NAME) λ name.
    Gives-part context_shaped λ context context-shaped.
    Gives-done _ _ context-shaped

pub ibpkey_shaped : IsShaped ibpkey_at shape_of_ibpkey
unfolding ibpkey_at
ibpkey_shaped =
    gives-others (string _ 8) λ prefix.
    gives-others (number _ 4) λ low.
    gives-others (number _ 4) λ high.
    Gives-part context_shaped λ context context-shaped.
    Gives-done _ _ context-shaped

pub ibendport_shaped : IsShaped ibendport_at shape_of_ibendport
unfolding ibendport_at
ibendport_shaped =
    gives-others (name_length_at IBENDPORT_LEN) λ len.
    gives-others (number _ 4) λ port.
    gives-others (name_bytes_at IBENDPORT_NAME len) λ name.
    Gives-part context_shaped λ context context-shaped.
    Gives-done _ _ context-shaped

path_shaped : IsShaped path_at shape_of_path
unfolding path_at
path_shaped =
    gives-others (name_at GENFS_PATHLEN GENFS_PATH) λ path.
    gives-others (number _ 4) λ class.
    Gives-part context_shaped λ context context-shaped.
    Gives-done _ _ context-shaped

pub genfs_shaped : IsShaped genfs_at shape_of_genfs
unfolding genfs_at
genfs_shaped =
    gives-others (name_at GENFS_LEN GENFS_FSTYPE) λ fstype.
    Gives-part (shaped-counted _ path_shaped) λ paths paths-shaped.
    Gives-done _ _ paths-shaped
