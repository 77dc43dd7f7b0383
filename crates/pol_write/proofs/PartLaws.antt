-- Both laws of each list of a policy.
use Rattle.std.proofs.Common.{ℕ, Bool, Some, List}
use Rattle.std.specs.List.{flat_map}
use Rattle.pol_fields.specs.declared.field.Field.{Field}
use Rattle.pol_fields.specs.declared.fields.TheConstants.{ROLETRANS_COUNT, ROLEALLOW_COUNT, NAMETRANS_COUNT, NAMEGROUP_COUNT, SID_COUNT, PORT_COUNT, FSUSE_COUNT, IBPKEY_COUNT, IBENDPORT_COUNT, GENFS_COUNT, RANGETRANS_COUNT}
use Rattle.pol_cursor.specs.Outcome.{Reader}
use Rattle.pol_cursor.specs.Parts.{counted, records_at, spell_counted, CountedFits}
use Rattle.pol_cursor.specs.References.{placed, values_of}
use Rattle.pol_bitmap.specs.Bitmap.{bitmap_at, spell_bitmap, BitmapFits}
use Rattle.pol_bitmap.proofs.Laws.{bitmap_spelled, bitmap_again}
use Rattle.pol_symtab.specs.SymbolTables.{Table, bare, table_start, spell_table, TableFits}
use Rattle.pol_commons.specs.declared.CommonRec.{CommonRec}
use Rattle.pol_commons.specs.CommonRecord.{spell_common, CommonFits}
use Rattle.pol_commons.specs.CommonTable.{common_under, after_common, commons_at}
use Rattle.pol_commons.proofs.CommonLaws.{common_spelled, common_again}
use Rattle.pol_datums.specs.RoleRecord.{spell_role, RoleFits}
use Rattle.pol_datums.specs.TypeRecord.{spell_type, TypeFits}
use Rattle.pol_datums.specs.BooleanRecord.{spell_boolean, BooleanFits}
use Rattle.pol_datums.specs.SensitivityRecord.{spell_sensitivity, SensitivityFits}
use Rattle.pol_datums.specs.CategoryRecord.{spell_category, CategoryFits}
use Rattle.pol_datums.proofs.DatumLaws.{role_spelled, role_again, type_spelled, type_again, boolean_spelled, boolean_again, sensitivity_spelled, sensitivity_again, category_spelled, category_again}
use Rattle.pol_classes.specs.ClassRecord.{spell_class, ClassFits}
use Rattle.pol_classes.specs.ClassTables.{class_under, after_class, class_start, class_table_at}
use Rattle.pol_classes.proofs.ClassLaws.{class_spelled, class_again}
use Rattle.pol_symbols.specs.UserRecord.{spell_user, UserFits}
use Rattle.pol_symbols.specs.PolicySymbols.{roles_at, types_at, users_at, booleans_at, levels_at, categories_at}
use Rattle.pol_symbols.proofs.UserLaws.{user_spelled, user_again}
use Rattle.pol_avtab.specs.AvRecord.{spell_av, AvFits}
use Rattle.pol_conditionals.specs.CondNodeRecord.{spell_condnode, CondNodeFits}
use Rattle.pol_avtab.specs.AvTables.{table_at as rule_table_at, plain_table_at}
use Rattle.pol_conditionals.specs.CondNodeList.{conditionals_at, plain_conditionals_at}
use Rattle.pol_avtab.proofs.AvLaws.{table_spelled as rules_spelled, table_again as rules_again, table_unplaced as rules_unplaced}
use Rattle.pol_conditionals.proofs.CondNodeLaws.{conditionals_spelled, conditionals_again, conditionals_unplaced}
use Rattle.pol_trans.specs.RoleTransRecord.{role_trans_at, spell_role_trans, RoleTransFits}
use Rattle.pol_trans.specs.RoleAllowRecord.{role_allow_at, spell_role_allow, RoleAllowFits}
use Rattle.pol_trans.specs.NameTransRecord.{name_trans_at, spell_name_trans, NameTransFits}
use Rattle.pol_trans.specs.NameGroupRecord.{name_group_at, spell_name_group, NameGroupFits}
use Rattle.pol_trans.specs.RangeTransRecord.{range_trans_at, spell_range_trans, RangeTransFits}
use Rattle.pol_trans.proofs.TransLaws.{role_trans_spelled, role_trans_again, role_allow_spelled, role_allow_again, name_trans_spelled, name_trans_again, name_group_spelled, name_group_again, range_trans_spelled, range_trans_again}
use Rattle.pol_contexts.specs.SidRecord.{sid_at, spell_sid, SidFits}
use Rattle.pol_contexts.specs.NamedRecord.{named_at, spell_named, NamedFits}
use Rattle.pol_contexts.specs.PortRecord.{port_at, spell_port, PortFits}
use Rattle.pol_contexts.specs.AddressRecord.{address_at, spell_address, AddressFits}
use Rattle.pol_contexts.specs.FsUseRecord.{fsuse_at, spell_fsuse, FsUseFits}
use Rattle.pol_contexts.specs.IbPkeyRecord.{ibpkey_at, spell_ibpkey, IbPkeyFits}
use Rattle.pol_contexts.specs.IbEndPortRecord.{ibendport_at, spell_ibendport, IbEndPortFits}
use Rattle.pol_contexts.specs.ContextTables.{table_if}
use Rattle.pol_contexts.proofs.ContextLaws.{sid_spelled, sid_again, named_spelled, named_again, port_spelled, port_again, address_spelled, address_again, fsuse_spelled, fsuse_again, ibpkey_spelled, ibpkey_again, ibendport_spelled, ibendport_again}
use Rattle.pol_genfs.specs.GenfsRecord.{genfs_at, spell_genfs, GenfsFits}
use Rattle.pol_genfs.proofs.GenfsLaws.{genfs_spelled, genfs_again}
use Rattle.pol_file.specs.TypeRows.{type_rows_at}
use Rattle.pol_tree.specs.TreeSpelling.{spell_if}
use Rattle.pol_write.proofs.Findings.{HasLaws, laws-through}
use Rattle.pol_write.proofs.ListFindings.{list-laws, table-laws, rows-laws, AreSoManyFitting, list_if-laws, FitsIf}

-- ---- the symbol tables

-- a table of records
abbrev HasTableLaws : {A : Type 0} → Reader (Table A) → (A → List ℕ) → (A → Type 0) → Type 0
HasTableLaws r spell fits = HasLaws r (λ table. bare table) (spell_table spell) (TableFits fits)

pub commons-laws : HasTableLaws commons_at spell_common CommonFits
unfolding commons_at
commons-laws = table-laws common_under after_common table_start spell_common CommonFits (λ context. common_spelled context.taken context.nprim) (λ context. common_again context.taken context.nprim)

pub classes-laws : (version : ℕ) (commons : Table CommonRec) → HasTableLaws (class_table_at version commons) spell_class (ClassFits version)
unfolding class_table_at
classes-laws version commons =
    table-laws (class_under version) after_class (class_start commons) spell_class (ClassFits version) (λ context. class_spelled version context.table.taken context.table.nprim context.commons)
    (λ context. class_again version context.table.taken context.table.nprim context.commons)

pub roles-laws : HasTableLaws roles_at spell_role RoleFits
unfolding roles_at
roles-laws = table-laws _ _ table_start spell_role RoleFits (λ context. role_spelled context.taken context.nprim) (λ context. role_again context.taken context.nprim)

pub types-laws : HasTableLaws types_at spell_type TypeFits
unfolding types_at
types-laws = table-laws _ _ table_start spell_type TypeFits (λ context. type_spelled context.taken context.nprim) (λ context. type_again context.taken context.nprim)

pub users-laws : HasTableLaws users_at spell_user UserFits
unfolding users_at
users-laws = table-laws _ _ table_start spell_user UserFits (λ context. user_spelled context.taken context.nprim) (λ context. user_again context.taken context.nprim)

pub booleans-laws : HasTableLaws booleans_at spell_boolean BooleanFits
unfolding booleans_at
booleans-laws = table-laws _ _ table_start spell_boolean BooleanFits (λ context. boolean_spelled context.taken context.nprim) (λ context. boolean_again context.taken context.nprim)

pub levels-laws : HasTableLaws levels_at spell_sensitivity SensitivityFits
unfolding levels_at
levels-laws = table-laws _ _ table_start spell_sensitivity SensitivityFits (λ context. sensitivity_spelled context.taken context.nprim) (λ context. sensitivity_again context.taken context.nprim)

pub categories-laws : HasTableLaws categories_at spell_category CategoryFits
unfolding categories_at
categories-laws = table-laws _ _ table_start spell_category CategoryFits (λ context. category_spelled context.taken context.nprim) (λ context. category_again context.taken context.nprim)

-- ---- the rules

pub avtab-laws : (version : ℕ) → HasLaws (rule_table_at version) (λ rules. values_of rules) (spell_counted spell_av) (CountedFits AvFits)
avtab-laws version = laws-through (rule_table_at version) (plain_table_at version) (λ rules. values_of rules) (spell_counted spell_av) (CountedFits AvFits) (rules_unplaced version) (rules_spelled version) (rules_again version)

pub condlist-laws : (version : ℕ) → HasLaws (conditionals_at version) (λ nodes. values_of nodes) (spell_counted spell_condnode) (CountedFits CondNodeFits)
condlist-laws version =
    laws-through (conditionals_at version) (plain_conditionals_at version) (λ nodes. values_of nodes) (spell_counted spell_condnode) (CountedFits CondNodeFits) (conditionals_unplaced version) (conditionals_spelled version)
    (conditionals_again version)

-- a list of records behind its count
abbrev HasListLaws : {A : Type 0} → Field → Reader A → (A → List ℕ) → (A → Type 0) → Type 0
HasListLaws count record_at spell fits = HasLaws (counted count (records_at (placed record_at))) (λ records. values_of records) (spell_counted spell) (CountedFits fits)

pub roletrans-laws : HasListLaws ROLETRANS_COUNT role_trans_at spell_role_trans RoleTransFits
roletrans-laws = list-laws ROLETRANS_COUNT role_trans_at spell_role_trans RoleTransFits role_trans_spelled role_trans_again

pub roleallow-laws : HasListLaws ROLEALLOW_COUNT role_allow_at spell_role_allow RoleAllowFits
roleallow-laws = list-laws ROLEALLOW_COUNT role_allow_at spell_role_allow RoleAllowFits role_allow_spelled role_allow_again

pub nametrans-laws : HasListLaws NAMETRANS_COUNT name_trans_at spell_name_trans NameTransFits
nametrans-laws = list-laws NAMETRANS_COUNT name_trans_at spell_name_trans NameTransFits name_trans_spelled name_trans_again

pub namegroup-laws : HasListLaws NAMEGROUP_COUNT name_group_at spell_name_group NameGroupFits
namegroup-laws = list-laws NAMEGROUP_COUNT name_group_at spell_name_group NameGroupFits name_group_spelled name_group_again

pub rangetrans-laws : HasListLaws RANGETRANS_COUNT range_trans_at spell_range_trans RangeTransFits
rangetrans-laws = list-laws RANGETRANS_COUNT range_trans_at spell_range_trans RangeTransFits range_trans_spelled range_trans_again

-- ---- the tables of contexts

pub sid-laws : HasListLaws SID_COUNT sid_at spell_sid SidFits
sid-laws = list-laws SID_COUNT sid_at spell_sid SidFits sid_spelled sid_again

pub named-laws : (count len_field name_field : Field) → HasListLaws count (named_at len_field name_field) spell_named NamedFits
named-laws count len_field name_field = list-laws count (named_at len_field name_field) spell_named NamedFits (named_spelled len_field name_field) (named_again len_field name_field)

pub port-laws : HasListLaws PORT_COUNT port_at spell_port PortFits
port-laws = list-laws PORT_COUNT port_at spell_port PortFits port_spelled port_again

pub address-laws : (count address_field mask_field : Field) (width : ℕ) → HasListLaws count (address_at address_field mask_field width) (spell_address {width = width}) (AddressFits width)
address-laws count address_field mask_field width =
    list-laws count (address_at address_field mask_field width) (spell_address {width = width}) (AddressFits width) (address_spelled address_field mask_field width) (address_again address_field mask_field width)

pub fsuse-laws : HasListLaws FSUSE_COUNT fsuse_at spell_fsuse FsUseFits
fsuse-laws = list-laws FSUSE_COUNT fsuse_at spell_fsuse FsUseFits fsuse_spelled fsuse_again

-- one that is in the file or is empty
abbrev HasLawsIf : {A : Type 0} → Bool → Field → Reader A → (A → List ℕ) → (A → Type 0) → Type 0
HasLawsIf there count entry_at spell fits = HasLaws (table_if there (counted count (records_at (placed entry_at)))) (λ entries. values_of entries) (λ xs. spell_if there (spell_counted spell xs)) (FitsIf there (CountedFits fits))

pub ibpkey-laws : (there : Bool) → HasLawsIf there IBPKEY_COUNT ibpkey_at spell_ibpkey IbPkeyFits
ibpkey-laws there = list_if-laws there (counted IBPKEY_COUNT (records_at (placed ibpkey_at))) (spell_counted spell_ibpkey) (CountedFits IbPkeyFits) (list-laws IBPKEY_COUNT ibpkey_at spell_ibpkey IbPkeyFits ibpkey_spelled ibpkey_again)

pub ibendport-laws : (there : Bool) → HasLawsIf there IBENDPORT_COUNT ibendport_at spell_ibendport IbEndPortFits
ibendport-laws there = list_if-laws there (counted IBENDPORT_COUNT (records_at (placed ibendport_at))) (spell_counted spell_ibendport) (CountedFits IbEndPortFits) (list-laws IBENDPORT_COUNT ibendport_at spell_ibendport IbEndPortFits ibendport_spelled ibendport_again)

-- ---- what stands behind those

pub genfs-laws : HasListLaws GENFS_COUNT genfs_at spell_genfs GenfsFits
genfs-laws = list-laws GENFS_COUNT genfs_at spell_genfs GenfsFits genfs_spelled genfs_again

pub typemap-laws : (types : ℕ) → HasLaws (type_rows_at types) (λ rows. values_of rows) (flat_map spell_bitmap) (AreSoManyFitting types BitmapFits)
unfolding type_rows_at
typemap-laws types = rows-laws (λ nprim. bitmap_at (Some nprim)) (λ nprim row. nprim) spell_bitmap BitmapFits (λ nprim. bitmap_spelled (Some nprim)) (λ nprim. bitmap_again (Some nprim)) types types
