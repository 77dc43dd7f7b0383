-- What stands behind the symbol tables of a policy that is made is read.
use Rattle.std.proofs.Common.{ℕ, ◌+◌, ◌≤◌, refl, append_assoc}
use Rattle.std.proofs.lemmas.List.{append-nil}
use Rattle.pol_fields.specs.declared.fields.TheConstants.{CONDLIST_COUNT, ROLETRANS_COUNT, ROLEALLOW_COUNT, NAMETRANS_COUNT, FS_COUNT, FS_LEN, FS_NAME, PORT_COUNT, NETIF_COUNT, NETIF_LEN, NETIF_NAME, NODE_COUNT, NODE_ADDRESS, NODE_MASK, FSUSE_COUNT, NODE6_COUNT, NODE6_ADDRESS, NODE6_MASK, IBPKEY_COUNT, IBENDPORT_COUNT, GENFS_COUNT, RANGETRANS_COUNT}
use Rattle.pol_conditionals.specs.CondNodeRecord.{condnode_at, spell_condnode}
use Rattle.pol_conditionals.specs.CondNodeList.{conditionals_at}
use Rattle.pol_trans.specs.declared.NameTrans.TheVariants.{Entries}
use Rattle.pol_trans.specs.RoleTransRecord.{role_trans_at, spell_role_trans}
use Rattle.pol_trans.specs.RoleAllowRecord.{role_allow_at, spell_role_allow}
use Rattle.pol_trans.specs.NameTransRecord.{name_trans_at, spell_name_trans}
use Rattle.pol_trans.specs.RangeTransRecord.{range_trans_at, spell_range_trans}
use Rattle.pol_contexts.specs.NamedRecord.{named_at, spell_named}
use Rattle.pol_contexts.specs.PortRecord.{port_at, spell_port}
use Rattle.pol_contexts.specs.AddressRecord.{address_at, spell_address}
use Rattle.pol_contexts.specs.FsUseRecord.{fsuse_at, spell_fsuse}
use Rattle.pol_contexts.specs.IbPkeyRecord.{ibpkey_at, spell_ibpkey}
use Rattle.pol_contexts.specs.IbEndPortRecord.{ibendport_at, spell_ibendport}
use Rattle.pol_contexts.specs.ContextTables.{table_if, contexts_at}
use Rattle.pol_genfs.specs.GenfsRecord.{genfs_at, spell_genfs}
use Rattle.pol_file.specs.PolicyParts.{rule_lists_at, label_lists_at}
use Rattle.pol_tree.specs.TreeSpelling.{spell_rules, spell_contexts, spell_labels}
use Rattle.pol_write.proofs.FoundParts.{HasNames, HasRules, HasContexts, HasLabels}
use Rattle.pol_make.specs.MadeSymbols.{attribute_count}
use Rattle.pol_make.specs.Made.{made}
use Rattle.pol_moved.proofs.Granted.{Grants, grants-done, grants-part, grants-as}
use Rattle.pol_make.proofs.GrantedTables.{grants-no_entries}
use Rattle.pol_make.proofs.GrantedRules.{rule_table-granted}
use Rattle.pol_make.proofs.GrantedSids.{sids-granted}
use Rattle.pol_make.proofs.GrantedRows.{type_rows-granted}

-- the rules
pub rule_lists-granted : (n : ℕ) → 20 ≤ n → n ≤ 5000 → Grants (rule_lists_at 31) (HasRules (made n)) (spell_rules (made n))
unfolding rule_lists_at spell_rules conditionals_at made
rule_lists-granted n many most =
    grants-as
    (grants-part _ (rule_table-granted 31 n many most) λ table is_avtab.
    grants-part _ (grants-no_entries CONDLIST_COUNT (condnode_at 31) spell_condnode) λ conditionals is_condlist.
    grants-part _ (grants-no_entries ROLETRANS_COUNT role_trans_at spell_role_trans) λ role_trans is_roletrans.
    grants-part _ (grants-no_entries ROLEALLOW_COUNT role_allow_at spell_role_allow) λ role_allows is_roleallow.
    grants-part _ (grants-part _ (grants-no_entries NAMETRANS_COUNT name_trans_at spell_name_trans) λ entries are. grants-done {Q = HasNames (made n)} (Entries entries) (record { entries = are; groups = refl })) λ name_trans has_names.
    grants-done _ (record { avtab = is_avtab; condlist = is_condlist; roletrans = is_roletrans; roleallow = is_roleallow; names = has_names }))
    (simp (append_assoc, append-nil))

-- the tables of contexts
contexts-granted : (n : ℕ) → Grants (contexts_at 31) (HasContexts (made n)) (spell_contexts (made n))
unfolding contexts_at spell_contexts table_if made
contexts-granted n =
    grants-as
    (grants-part _ sids-granted λ sid is_sid.
    grants-part _ (grants-no_entries FS_COUNT (named_at FS_LEN FS_NAME) spell_named) λ fs is_fs.
    grants-part _ (grants-no_entries PORT_COUNT port_at spell_port) λ port is_port.
    grants-part _ (grants-no_entries NETIF_COUNT (named_at NETIF_LEN NETIF_NAME) spell_named) λ netif is_netif.
    grants-part _ (grants-no_entries NODE_COUNT (address_at NODE_ADDRESS NODE_MASK 4) (spell_address {width = 4})) λ node is_node.
    grants-part _ (grants-no_entries FSUSE_COUNT fsuse_at spell_fsuse) λ fsuse is_fsuse.
    grants-part _ (grants-no_entries NODE6_COUNT (address_at NODE6_ADDRESS NODE6_MASK 16) (spell_address {width = 16})) λ node6 is_node6.
    grants-part _ (grants-no_entries IBPKEY_COUNT ibpkey_at spell_ibpkey) λ ibpkey is_ibpkey.
    grants-part _ (grants-no_entries IBENDPORT_COUNT ibendport_at spell_ibendport) λ ibendport is_ibendport.
    grants-done _ (record { sid = is_sid; fs = is_fs; port = is_port; netif = is_netif; node = is_node; fsuse = is_fsuse; node6 = is_node6; ibpkey = is_ibpkey; ibendport = is_ibendport }))
    (simp (append_assoc, append-nil))

-- what stands behind the rules
pub label_lists-granted : (n : ℕ) → 20 ≤ n → n ≤ 5000 → Grants (label_lists_at 31 (n + attribute_count n)) (HasLabels (made n)) (spell_labels (made n))
unfolding label_lists_at spell_labels made
label_lists-granted n many most =
    grants-as
    (grants-part _ (contexts-granted n) λ contexts has_contexts.
    grants-part _ (grants-no_entries GENFS_COUNT genfs_at spell_genfs) λ genfs is_genfs.
    grants-part _ (grants-no_entries RANGETRANS_COUNT range_trans_at spell_range_trans) λ range_trans is_rangetrans.
    grants-part _ (type_rows-granted n many most) λ type_rows is_typemap.
    grants-done _ (record { contexts = has_contexts; genfs = is_genfs; rangetrans = is_rangetrans; typemap = is_typemap }))
    (simp (append_assoc, append-nil))
