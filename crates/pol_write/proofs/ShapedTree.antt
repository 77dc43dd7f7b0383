-- A policy that is accepted has no wrong optional part: its tree has none.
use Rattle.std.proofs.Common.{◌≡◌, ℕ, ◌==◌, Bool, true, false, not, Option, Some, None, Ok, List, [], ◌∷◌, length, if◌then◌else◌, refl}
use Rattle.std.proofs.lemmas.Bool.{eq-eqb}
use Rattle.std.proofs.lemmas.List.{length-map}
use Rattle.pol_fields.specs.declared.Field.{Field}
use Rattle.pol_fields.specs.declared.field.Field.{Field}
use Rattle.pol_fields.specs.declared.fields.TheConstants.{BITMAP_UNIT, ROLETRANS_COUNT, ROLEALLOW_COUNT, NAMETRANS_COUNT, NAMEGROUP_COUNT, SID_COUNT, FS_COUNT, FS_LEN, FS_NAME, PORT_COUNT, NETIF_COUNT, NETIF_LEN, NETIF_NAME, NODE_COUNT, NODE_ADDRESS, NODE_MASK, FSUSE_COUNT, NODE6_COUNT, NODE6_ADDRESS, NODE6_MASK, IBPKEY_COUNT, IBENDPORT_COUNT, GENFS_COUNT, RANGETRANS_COUNT, END_END}
use Rattle.pol_cursor.specs.Outcome.{Reader}
use Rattle.pol_cursor.specs.Parts.{number, counted, records_at, end_at}
use Rattle.pol_cursor.specs.References.{Placed, placed, values_of}
use Rattle.pol_symtab.specs.Inner.Freshness.{Gives}
use Rattle.pol_symtab.proofs.FreshRecords.{Gives-part, Gives-done}
use Rattle.pol_symtab.specs.SymbolTables.{Table, table_head_at, table_records_at, table_at, table_start}
use Rattle.pol_commons.specs.declared.CommonRec.{CommonRec}
use Rattle.pol_commons.specs.CommonTable.{commons_at}
use Rattle.pol_classes.specs.ClassTables.{class_under, after_class, class_start, class_table_at}
use Rattle.pol_symbols.specs.PolicySymbols.{roles_at, types_at, users_at, booleans_at, levels_at, categories_at, rule_tables_at, other_tables_at, symbols_at}
use Rattle.pol_avtab.specs.AvTables.{rule_at, after_rule, no_rules, placed_rules_at, table_at as rule_table_at}
use Rattle.pol_conditionals.specs.CondNodeList.{conditionals_at}
use Rattle.pol_trans.specs.RoleTransRecord.{role_trans_at}
use Rattle.pol_trans.specs.RoleAllowRecord.{role_allow_at}
use Rattle.pol_trans.specs.declared.NameTrans.{NameTrans}
use Rattle.pol_trans.specs.declared.NameTrans.TheVariants.{Entries, Groups}
use Rattle.pol_trans.specs.NameTransRecord.{name_trans_at}
use Rattle.pol_trans.specs.NameGroupRecord.{name_group_at}
use Rattle.pol_trans.specs.NameTransitions.{has_groups, entries_at, groups_at}
use Rattle.pol_contexts.specs.ContextTables.{table_if, has_infiniband, contexts_at}
use Rattle.pol_symbols.specs.declared.Symbols.{Symbols}
use Rattle.pol_file.specs.declared.Front.{Front}
use Rattle.pol_file.specs.declared.LabelLists.{LabelLists}
use Rattle.pol_file.specs.declared.Parts.{Parts}
use Rattle.pol_file.specs.PolicyParts.{front_at, rule_lists_at, label_lists_at, policy_at}
use Rattle.pol_file.specs.Acceptance.{accept}
use Rattle.pol_file.proofs.Acceptances.{accepted_was_read}
use Rattle.pol_file.proofs.PolicyTypes.{type_rows_long}
use Rattle.pol_file.proofs.ReadValues.{gives-others}
use Rattle.pol_tree.specs.OptionalParts.{wrong_if, shape_of_list, first_in}
use Rattle.pol_tree.specs.RecordShapes.{shape_of_class, shape_of_user, shape_of_av, shape_of_condnode}
use Rattle.pol_tree.specs.PolicyTree.{entries_of, groups_of, tree_of}
use Rattle.pol_tree.specs.TreeShape.{shape_of_symbols, shape_of_rules, shape_of_contexts, shape_of_labels, shape}
use Rattle.pol_tree.proofs.Wrongs.{none-first, none-last}
use Rattle.pol_write.proofs.ShapedParts.{IsShaped, AreShaped, shaped-placed_list, shaped-records_after}
use Rattle.pol_write.proofs.ShapedRecords.{class_shaped, user_shaped, av_shaped, condnode_shaped, range_trans_shaped, sid_shaped, named_shaped, port_shaped, address_shaped, fsuse_shaped, ibpkey_shaped, ibendport_shaped, genfs_shaped}

-- ---- symbols

-- a symbol table whose records have no wrong part
shaped-table : {S A : Type 0} (record_at : S → Reader A) (after : S → A → S) (start : ℕ → S) (shape : A → Option Field) → ((context : S) → IsShaped (record_at context) shape) → IsShaped (table_at record_at after start) (λ table. first_in shape (values_of table.records))
unfolding table_at table_records_at
shaped-table record_at after start shape each =
    gives-others table_head_at λ head.
    Gives-part (shaped-records_after record_at after shape each head.nel (start head.nprim)) λ records records-shaped.
    Gives-done _ _ records-shaped

classes_shaped : (version : ℕ) (commons : Table CommonRec) → IsShaped (class_table_at version commons) (λ table. first_in (shape_of_class version) (values_of table.records))
unfolding class_table_at
classes_shaped version commons =
    shaped-table (class_under version) after_class (class_start commons) (shape_of_class version) λ context. class_shaped version context.table.taken context.table.nprim context.commons

users_shaped : IsShaped users_at (λ table. first_in shape_of_user (values_of table.records))
unfolding users_at
users_shaped = shaped-table _ _ table_start shape_of_user λ context. user_shaped context.taken context.nprim

rule_tables_shaped : (version : ℕ) → IsShaped (rule_tables_at version) (λ tables. first_in (shape_of_class version) (values_of tables.classes.records))
unfolding rule_tables_at
rule_tables_shaped version =
    gives-others commons_at λ commons.
    Gives-part (classes_shaped version commons) λ classes classes-shaped.
    gives-others roles_at λ roles.
    gives-others types_at λ types.
    Gives-done _ _ classes-shaped

other_tables_shaped : IsShaped other_tables_at (λ tables. first_in shape_of_user (values_of tables.users.records))
unfolding other_tables_at
other_tables_shaped =
    Gives-part users_shaped λ users users-shaped.
    gives-others booleans_at λ booleans.
    gives-others levels_at λ levels.
    gives-others categories_at λ categories.
    Gives-done _ _ users-shaped

-- The fact below is said of a part within the tree of a policy, whatever the other parts are.
symbols_shaped : (front : Front) → Gives (symbols_at front.header.version) (λ symbols. (policy : Parts) → shape_of_symbols (tree_of (record policy { front = front; symbols = symbols })) ≡ None)
unfolding symbols_at tree_of shape_of_symbols
symbols_shaped front =
    Gives-part (rule_tables_shaped front.header.version) λ first first-shaped.
    Gives-part other_tables_shaped λ others others-shaped.
    Gives-done _ _ (λ policy. none-first _ _ first-shaped (none-first _ _ others-shaped none-last))

-- ---- rules

rule_table_shaped : (version : ℕ) → AreShaped (rule_table_at version) shape_of_av
unfolding rule_table_at placed_rules_at
rule_table_shaped version =
    gives-others (number _ 4) λ n.
    shaped-records_after rule_at after_rule shape_of_av (λ context. av_shaped context.version (Some context.keys)) n (no_rules version)

conditionals_shaped : (version : ℕ) → AreShaped (conditionals_at version) shape_of_condnode
unfolding conditionals_at
conditionals_shaped version = shaped-placed_list _ (condnode_shaped version)

-- a list that is in the file is right
list_there : {A : Type 0} (xs : List A) (field : Field) → shape_of_list true xs field ≡ None
list_there [] field = refl
list_there (x ∷ xs) field = refl

-- the file-name transitions are empty in the form that the version does not have
record NamesShaped (grouped : Bool) (trans : NameTrans) : Type 0 where
  entries : shape_of_list (not grouped) (entries_of trans) NAMETRANS_COUNT ≡ None
  groups : shape_of_list grouped (groups_of trans) NAMEGROUP_COUNT ≡ None

names_shaped : (grouped : Bool) → Gives (if grouped then groups_at else entries_at) (NamesShaped grouped)
names_shaped true =
    gives-others (counted NAMEGROUP_COUNT (records_at (placed name_group_at))) λ groups.
    Gives-done _ (Groups groups) (record { entries = refl; groups = list_there (values_of groups) NAMEGROUP_COUNT })
names_shaped false =
    gives-others (counted NAMETRANS_COUNT (records_at (placed name_trans_at))) λ entries.
    Gives-done _ (Entries entries) (record { entries = list_there (values_of entries) NAMETRANS_COUNT; groups = refl })

rules_shaped : (front : Front) → Gives (rule_lists_at front.header.version) (λ rules. (policy : Parts) → shape_of_rules (tree_of (record policy { front = front; rules = rules })) ≡ None)
unfolding rule_lists_at tree_of shape_of_rules
rules_shaped front =
    Gives-part (rule_table_shaped front.header.version) λ table table-shaped.
    Gives-part (conditionals_shaped front.header.version) λ conditionals conditionals-shaped.
    gives-others (counted ROLETRANS_COUNT (records_at (placed role_trans_at))) λ role_trans.
    gives-others (counted ROLEALLOW_COUNT (records_at (placed role_allow_at))) λ role_allows.
    Gives-part (names_shaped (has_groups front.header.version)) λ name_trans names.
    Gives-done _ _ (λ policy. none-first _ _ table-shaped (none-first _ _ conditionals-shaped (none-first _ _ names.entries (none-first _ _ names.groups none-last))))

-- ---- contexts

-- a table that is there or is empty
record ShapedIf {A : Type 0} (there : Bool) (count : Field) (shape_of : A → Option Field) (table : List (Placed A)) : Type 0 where
  list : shape_of_list there (values_of table) count ≡ None
  entries : first_in shape_of (values_of table) ≡ None

table_if_shaped : {A : Type 0} (there : Bool) (count : Field) (table : Reader (List (Placed A))) (shape_of : A → Option Field) → AreShaped table shape_of → Gives (table_if there table) (ShapedIf there count shape_of)
unfolding table_if
table_if_shaped true count table shape_of each = record { each = λ bytes place entries next e. record { list = list_there (values_of entries) count; entries = each.each bytes place entries next e } }
table_if_shaped false count table shape_of each = Gives-done _ [] (record { list = refl; entries = none-last })

contexts_shaped : (front : Front)
    → Gives (contexts_at front.header.version) (λ contexts. (policy : Parts) → shape_of_contexts (tree_of (record policy { front = front; labels = record policy.labels { contexts = contexts } })) ≡ None)
unfolding contexts_at tree_of shape_of_contexts
contexts_shaped front =
    let there = has_infiniband front.header.version in
    Gives-part (shaped-placed_list SID_COUNT sid_shaped) λ sid sid-shaped.
    Gives-part (shaped-placed_list FS_COUNT (named_shaped FS_LEN FS_NAME)) λ fs fs-shaped.
    Gives-part (shaped-placed_list PORT_COUNT port_shaped) λ port port-shaped.
    Gives-part (shaped-placed_list NETIF_COUNT (named_shaped NETIF_LEN NETIF_NAME)) λ netif netif-shaped.
    Gives-part (shaped-placed_list NODE_COUNT (address_shaped NODE_ADDRESS NODE_MASK 4)) λ node node-shaped.
    Gives-part (shaped-placed_list FSUSE_COUNT fsuse_shaped) λ fsuse fsuse-shaped.
    Gives-part (shaped-placed_list NODE6_COUNT (address_shaped NODE6_ADDRESS NODE6_MASK 16)) λ node6 node6-shaped.
    Gives-part (table_if_shaped there IBPKEY_COUNT _ _ (shaped-placed_list IBPKEY_COUNT ibpkey_shaped)) λ ibpkey ibpkey-shaped.
    Gives-part (table_if_shaped there IBENDPORT_COUNT _ _ (shaped-placed_list IBENDPORT_COUNT ibendport_shaped)) λ ibendport ibendport-shaped.
    Gives-done _ _ (λ policy.
    none-first _ _ sid-shaped
    (none-first _ _ fs-shaped
    (none-first _ _ port-shaped
    (none-first _ _ netif-shaped
    (none-first _ _ node-shaped
    (none-first _ _ fsuse-shaped
    (none-first _ _ node6-shaped
    (none-first _ _ ibpkey-shaped.list
    (none-first _ _ ibpkey-shaped.entries
    (none-first _ _ ibendport-shaped.list
    (none-first _ _ ibendport-shaped.entries
    none-last)))))))))))

-- ---- what stands behind those

-- the type map has a row for each type value
rows_shaped : {A : Type 0} (rows : List (Placed A)) (types : ℕ) → length rows ≡ types → wrong_if (not (length (values_of rows) == types)) BITMAP_UNIT ≡ None
rows_shaped rows types long = rw (length-map, eq-eqb (length rows) types long) refl

labels_shaped : (front : Front) (symbols : Symbols)
    → Gives (label_lists_at front.header.version symbols.types.nprim) (λ labels. (policy : Parts) → shape_of_labels (tree_of (record policy { front = front; symbols = symbols; labels = labels })) ≡ None)
unfolding label_lists_at tree_of shape_of_labels
labels_shaped front symbols =
    Gives-part (contexts_shaped front) λ contexts contexts-shaped.
    Gives-part (shaped-placed_list GENFS_COUNT genfs_shaped) λ genfs genfs-shaped.
    Gives-part (shaped-placed_list RANGETRANS_COUNT range_trans_shaped) λ range_trans range_trans-shaped.
    Gives-part (type_rows_long symbols.types.nprim) λ type_rows long.
    let labels : LabelLists = record { contexts = contexts; genfs = genfs; range_trans = range_trans; type_rows = type_rows } in
    Gives-done _ labels (λ policy.
    none-first _ _ (contexts-shaped (record policy { symbols = symbols; labels = labels }))
    (none-first _ _ genfs-shaped
    (none-first _ _ range_trans-shaped
    (none-first _ _ (rows_shaped type_rows symbols.types.nprim long)
    none-last))))

-- ---- the whole policy

policy_shaped : Gives policy_at (λ policy. shape (tree_of policy) ≡ None)
unfolding policy_at shape
policy_shaped =
    gives-others front_at λ front.
    Gives-part (symbols_shaped front) λ symbols symbols-shaped.
    Gives-part (rules_shaped front) λ rules rules-shaped.
    Gives-part (labels_shaped front symbols) λ labels labels-shaped.
    gives-others (end_at END_END) λ ended.
    let policy : Parts = record { front = front; symbols = symbols; rules = rules; labels = labels } in
    Gives-done _ policy (none-first _ _ (symbols-shaped policy) (none-first _ _ (rules-shaped policy) (none-first _ _ (labels-shaped policy) none-last)))

pub accepted_tree_is_shaped : (bytes : List ℕ) (policy : Parts) → accept bytes ≡ Ok policy → shape (tree_of policy) ≡ None
accepted_tree_is_shaped bytes policy e =
    let was = accepted_was_read bytes policy e in
    policy_shaped.each bytes 0 policy was.next was.read
