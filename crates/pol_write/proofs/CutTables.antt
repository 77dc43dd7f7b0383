-- The readers of the parts of a policy look at no byte behind their values: its symbol tables, its rules and its contexts.
use Rattle.std.proofs.Common.{ℕ, Bool, true, false, Option, Some, None, List}
use Rattle.pol_fields.specs.declared.field.Field.{Field}
use Rattle.pol_fields.specs.declared.fields.TheConstants.{NAMETRANS_LEN, NAMETRANS_NAME, NAMEGROUP_LEN, NAMEGROUP_NAME, FS_LEN, FS_NAME, NETIF_LEN, NETIF_NAME, NODE_ADDRESS, NODE_MASK, FSUSE_LEN, FSUSE_NAME, NODE6_ADDRESS, NODE6_MASK, IBENDPORT_LEN, IBENDPORT_NAME, GENFS_LEN, GENFS_FSTYPE, GENFS_PATHLEN, GENFS_PATH}
use Rattle.pol_cursor.specs.Outcome.{Reader}
use Rattle.pol_symtab.specs.SymbolTables.{Table, table_head_at, table_records_at, table_at, table_start}
use Rattle.pol_commons.specs.declared.CommonRec.{CommonRec}
use Rattle.pol_commons.specs.CommonTable.{common_under, after_common, commons_at}
use Rattle.pol_classes.specs.ClassTables.{class_start, after_class, class_under, class_table_at}
use Rattle.pol_symbols.specs.PolicySymbols.{roles_at, types_at, users_at, booleans_at, levels_at, categories_at, rule_tables_at, other_tables_at, symbols_at}
use Rattle.pol_avtab.specs.declared.AvKey.{AvKey}
use Rattle.pol_avtab.specs.AvRecord.{is_extended, extended_at, data_at, part_at, av_at}
use Rattle.pol_conditionals.specs.CondNodeRecord.{condnode_at}
use Rattle.pol_avtab.specs.AvTables.{rule_at, after_rule, no_rules, placed_rules_at, table_at as rule_table_at}
use Rattle.pol_conditionals.specs.CondNodeList.{conditionals_at}
use Rattle.pol_trans.specs.RoleTransRecord.{role_trans_at}
use Rattle.pol_trans.specs.RoleAllowRecord.{role_allow_at}
use Rattle.pol_trans.specs.RangeTransRecord.{range_trans_at}
use Rattle.pol_trans.specs.NameTransRecord.{name_trans_at}
use Rattle.pol_trans.specs.NameGroupRecord.{name_datum_at, name_group_at}
use Rattle.pol_trans.specs.NameTransitions.{has_groups, entries_at, groups_at, name_transitions_at}
use Rattle.pol_mls.specs.ContextRecord.{context_at}
use Rattle.pol_contexts.specs.SidRecord.{sid_at}
use Rattle.pol_contexts.specs.NamedRecord.{named_at}
use Rattle.pol_contexts.specs.PortRecord.{port_at}
use Rattle.pol_contexts.specs.AddressRecord.{address_at}
use Rattle.pol_contexts.specs.FsUseRecord.{behaviour_at, fsuse_at}
use Rattle.pol_contexts.specs.IbPkeyRecord.{ibpkey_at}
use Rattle.pol_contexts.specs.IbEndPortRecord.{ibendport_at}
use Rattle.pol_contexts.specs.ContextTables.{table_if, has_infiniband, contexts_at}
use Rattle.pol_genfs.specs.GenfsRecord.{path_at, genfs_at}
use Rattle.pol_write.proofs.CutParts.{IsLocal, local-done, local-then, local-number, local-string, local-number_if, local-records_after, local-counted, local-placed, local-either, local-name, local-name_length, local-name_bytes}
use Rattle.pol_write.proofs.CutRecords.{range_local, bitmap_local, condition_local, common_local, class_local, role_local, type_local, user_local, boolean_local, sensitivity_local, category_local}

-- ---- symbol tables

table_head_local : IsLocal table_head_at
unfolding table_head_at
table_head_local =
    local-then (local-number_if _ 4 _) λ nprim.
    local-then (local-number _ 4) λ nel.
    local-done _

table_records_local : {S A : Type 0} (record_at : S → Reader A) (after : S → A → S) → ((context : S) → IsLocal (record_at context)) → (nprim nel : ℕ) (context : S) → IsLocal (table_records_at record_at after nprim nel context)
unfolding table_records_at
table_records_local record_at after each nprim nel context =
    local-then (local-records_after record_at after each nel context) λ records.
    local-done _

table_local : {S A : Type 0} (record_at : S → Reader A) (after : S → A → S) (start : ℕ → S) → ((context : S) → IsLocal (record_at context)) → IsLocal (table_at record_at after start)
unfolding table_at
table_local record_at after start each =
    local-then table_head_local λ head.
    table_records_local record_at after each head.nprim head.nel (start head.nprim)

commons_local : IsLocal commons_at
unfolding commons_at
commons_local = table_local common_under after_common table_start (λ context. common_local context.taken context.nprim)

classes_local : (version : ℕ) (commons : Table CommonRec) → IsLocal (class_table_at version commons)
unfolding class_table_at
classes_local version commons =
    table_local (class_under version) after_class (class_start commons)
    (λ context. class_local version context.table.taken context.table.nprim context.commons)

roles_local : IsLocal roles_at
unfolding roles_at
roles_local = table_local _ _ _ (λ context. role_local context.taken context.nprim)

types_local : IsLocal types_at
unfolding types_at
types_local = table_local _ _ _ (λ context. type_local context.taken context.nprim)

users_local : IsLocal users_at
unfolding users_at
users_local = table_local _ _ _ (λ context. user_local context.taken context.nprim)

booleans_local : IsLocal booleans_at
unfolding booleans_at
booleans_local = table_local _ _ _ (λ context. boolean_local context.taken context.nprim)

levels_local : IsLocal levels_at
unfolding levels_at
levels_local = table_local _ _ _ (λ context. sensitivity_local context.taken context.nprim)

categories_local : IsLocal categories_at
unfolding categories_at
categories_local = table_local _ _ _ (λ context. category_local context.taken context.nprim)

rule_tables_local : (version : ℕ) → IsLocal (rule_tables_at version)
unfolding rule_tables_at
rule_tables_local version =
    local-then commons_local λ commons.
    local-then (classes_local version commons) λ classes.
    local-then roles_local λ roles.
    local-then types_local λ types.
    local-done _

other_tables_local : IsLocal other_tables_at
unfolding other_tables_at
other_tables_local =
    local-then users_local λ users.
    local-then booleans_local λ booleans.
    local-then levels_local λ levels.
    local-then categories_local λ categories.
    local-done _

pub symbols_local : (version : ℕ) → IsLocal (symbols_at version)
unfolding symbols_at
symbols_local version =
    local-then (rule_tables_local version) λ first.
    local-then other_tables_local λ others.
    local-done _

-- ---- access vectors

extended_local : IsLocal extended_at
unfolding extended_at
extended_local =
    local-then (local-number_if _ 1 _) λ xkind.
    local-then (local-number _ 1) λ driver.
    local-then (local-string _ 32) λ bits.
    local-done _

data_local : IsLocal data_at
unfolding data_at
data_local =
    local-then (local-number _ 4) λ mask.
    local-done _

part_local : (extended : Bool) → IsLocal (part_at extended)
unfolding part_at
part_local extended = local-either extended extended_local data_local

av_local : (version : ℕ) (earlier : Option (List AvKey)) → IsLocal (av_at version earlier)
unfolding av_at
av_local version earlier =
    local-then (local-number _ 2) λ source.
    local-then (local-number _ 2) λ target.
    local-then (local-number _ 2) λ class.
    local-then (local-number_if _ 2 _) λ specified.
    local-then (part_local (is_extended specified)) λ part.
    local-done _

placed_rules_local : (version n : ℕ) → IsLocal (placed_rules_at version n)
unfolding placed_rules_at
placed_rules_local version n = local-records_after rule_at after_rule (λ context. av_local context.version (Some context.keys)) n (no_rules version)

pub rule_table_local : (version : ℕ) → IsLocal (rule_table_at version)
unfolding rule_table_at
rule_table_local version = local-then (local-number _ 4) λ n. placed_rules_local version n

condnode_local : (version : ℕ) → IsLocal (condnode_at version)
unfolding condnode_at
condnode_local version =
    local-then condition_local λ condition.
    local-then (local-counted (av_local version None) _) λ true_rules.
    local-then (local-counted (av_local version None) _) λ false_rules.
    local-done _

pub conditionals_local : (version : ℕ) → IsLocal (conditionals_at version)
unfolding conditionals_at
conditionals_local version = local-counted (local-placed (condnode_local version)) _

-- ---- transitions

pub role_trans_local : IsLocal role_trans_at
unfolding role_trans_at
role_trans_local =
    local-then (local-number _ 4) λ role.
    local-then (local-number _ 4) λ type_value.
    local-then (local-number _ 4) λ newrole.
    local-then (local-number _ 4) λ class.
    local-done _

pub role_allow_local : IsLocal role_allow_at
unfolding role_allow_at
role_allow_local =
    local-then (local-number _ 4) λ role.
    local-then (local-number _ 4) λ newrole.
    local-done _

name_trans_local : IsLocal name_trans_at
unfolding name_trans_at
name_trans_local =
    local-then (local-name NAMETRANS_LEN NAMETRANS_NAME) λ name.
    local-then (local-number _ 4) λ source.
    local-then (local-number _ 4) λ target.
    local-then (local-number _ 4) λ class.
    local-then (local-number _ 4) λ default.
    local-done _

name_datum_local : IsLocal name_datum_at
unfolding name_datum_at
name_datum_local =
    local-then (bitmap_local None) λ sources.
    local-then (local-number _ 4) λ default.
    local-done _

name_group_local : IsLocal name_group_at
unfolding name_group_at
name_group_local =
    local-then (local-name NAMEGROUP_LEN NAMEGROUP_NAME) λ name.
    local-then (local-number _ 4) λ target.
    local-then (local-number _ 4) λ class.
    local-then (local-counted name_datum_local _) λ datums.
    local-done _

entries_local : IsLocal entries_at
entries_local =
    local-then (local-counted (local-placed name_trans_local) _) λ entries.
    local-done _

groups_local : IsLocal groups_at
groups_local =
    local-then (local-counted (local-placed name_group_local) _) λ groups.
    local-done _

pub name_transitions_local : (version : ℕ) → IsLocal (name_transitions_at version)
name_transitions_local version = local-either (has_groups version) groups_local entries_local

pub range_trans_local : IsLocal range_trans_at
unfolding range_trans_at
range_trans_local =
    local-then (local-number _ 4) λ source.
    local-then (local-number _ 4) λ target.
    local-then (local-number _ 4) λ class.
    local-then range_local λ range.
    local-done _

-- ---- contexts

context_local : IsLocal context_at
unfolding context_at
context_local =
    local-then (local-number _ 4) λ user.
    local-then (local-number _ 4) λ role.
    local-then (local-number _ 4) λ type_value.
    local-then range_local λ range.
    local-done _

sid_local : IsLocal sid_at
unfolding sid_at
sid_local =
    local-then (local-number _ 4) λ sid.
    local-then context_local λ context.
    local-done _

named_local : (len_field name_field : Field) → IsLocal (named_at len_field name_field)
unfolding named_at
named_local len_field name_field =
    local-then (local-name len_field name_field) λ name.
    local-then context_local λ context.
    local-then context_local λ second_context.
    local-done _

port_local : IsLocal port_at
unfolding port_at
port_local =
    local-then (local-number _ 4) λ protocol.
    local-then (local-number _ 4) λ low.
    local-then (local-number _ 4) λ high.
    local-then context_local λ context.
    local-done _

address_local : (address_field mask_field : Field) (width : ℕ) → IsLocal (address_at address_field mask_field width)
unfolding address_at
address_local address_field mask_field width =
    local-then (local-string _ width) λ address.
    local-then (local-string _ width) λ mask.
    local-then context_local λ context.
    local-done _

behaviour_local : IsLocal behaviour_at
unfolding behaviour_at
behaviour_local = local-number_if _ 4 _

fsuse_local : IsLocal fsuse_at
unfolding fsuse_at
fsuse_local =
    local-then behaviour_local λ behaviour.
    local-then (local-name FSUSE_LEN FSUSE_NAME) λ name.
    local-then context_local λ context.
    local-done _

ibpkey_local : IsLocal ibpkey_at
unfolding ibpkey_at
ibpkey_local =
    local-then (local-string _ 8) λ prefix.
    local-then (local-number _ 4) λ low.
    local-then (local-number _ 4) λ high.
    local-then context_local λ context.
    local-done _

ibendport_local : IsLocal ibendport_at
unfolding ibendport_at
ibendport_local =
    local-then (local-name_length IBENDPORT_LEN) λ len.
    local-then (local-number _ 4) λ port.
    local-then (local-name_bytes IBENDPORT_NAME len) λ name.
    local-then context_local λ context.
    local-done _

table_if_local : {A : Type 0} {table : Reader (List A)} (there : Bool) → IsLocal table → IsLocal (table_if there table)
unfolding table_if
table_if_local true h = h
table_if_local false h = local-done _

pub contexts_local : (version : ℕ) → IsLocal (contexts_at version)
unfolding contexts_at
contexts_local version =
    local-then (local-counted (local-placed sid_local) _) λ sid.
    local-then (local-counted (local-placed (named_local FS_LEN FS_NAME)) _) λ fs.
    local-then (local-counted (local-placed port_local) _) λ port.
    local-then (local-counted (local-placed (named_local NETIF_LEN NETIF_NAME)) _) λ netif.
    local-then (local-counted (local-placed (address_local NODE_ADDRESS NODE_MASK 4)) _) λ node.
    local-then (local-counted (local-placed fsuse_local) _) λ fsuse.
    local-then (local-counted (local-placed (address_local NODE6_ADDRESS NODE6_MASK 16)) _) λ node6.
    local-then (table_if_local (has_infiniband version) (local-counted (local-placed ibpkey_local) _)) λ ibpkey.
    local-then (table_if_local (has_infiniband version) (local-counted (local-placed ibendport_local) _)) λ ibendport.
    local-done _

-- ---- file systems without labels

path_local : IsLocal path_at
unfolding path_at
path_local =
    local-then (local-name GENFS_PATHLEN GENFS_PATH) λ path.
    local-then (local-number _ 4) λ class.
    local-then context_local λ context.
    local-done _

pub genfs_local : IsLocal genfs_at
unfolding genfs_at
genfs_local =
    local-then (local-name GENFS_LEN GENFS_FSTYPE) λ fstype.
    local-then (local-counted path_local _) λ paths.
    local-done _
