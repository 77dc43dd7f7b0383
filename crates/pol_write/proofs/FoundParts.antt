-- The bytes of a tree, read again: each part is bad, or gives what the tree has.
use Rattle.std.proofs.Common.{◌≡◌, ℕ, Bool, true, false, None, List, [], ◌++◌, length, refl, sym, append_assoc, if◌then◌else◌}
use Rattle.std.proofs.lemmas.List.{append-nil}
use Rattle.pol_fields.specs.declared.fields.TheConstants.{FS_COUNT, FS_LEN, FS_NAME, NETIF_COUNT, NETIF_LEN, NETIF_NAME, NODE_COUNT, NODE_ADDRESS, NODE_MASK, NODE6_COUNT, NODE6_ADDRESS, NODE6_MASK}
use Rattle.pol_cursor.specs.Parts.{spell_counted, CountedFits}
use Rattle.pol_cursor.specs.References.{values_of}
use Rattle.pol_bitmap.specs.Bitmap.{bitmap_at, spell_bitmap, BitmapFits}
use Rattle.pol_bitmap.proofs.Laws.{bitmap_spelled, bitmap_again}
use Rattle.pol_file.specs.HeaderRecord.{header_at, spell_header, HeaderFits}
use Rattle.pol_file.proofs.HeaderLaws.{header_spelled, header_again}
use Rattle.pol_symtab.specs.SymbolTables.{bare, spell_table}
use Rattle.pol_commons.specs.CommonRecord.{spell_common}
use Rattle.pol_datums.specs.RoleRecord.{spell_role}
use Rattle.pol_datums.specs.TypeRecord.{spell_type}
use Rattle.pol_datums.specs.BooleanRecord.{spell_boolean}
use Rattle.pol_datums.specs.SensitivityRecord.{spell_sensitivity}
use Rattle.pol_datums.specs.CategoryRecord.{spell_category}
use Rattle.pol_classes.specs.ClassRecord.{spell_class}
use Rattle.pol_symbols.specs.UserRecord.{spell_user}
use Rattle.pol_symbols.specs.declared.Symbols.{Symbols}
use Rattle.pol_symbols.specs.declared.RuleTables.{RuleTables}
use Rattle.pol_symbols.specs.declared.OtherTables.{OtherTables}
use Rattle.pol_symbols.specs.PolicySymbols.{rule_tables_at, other_tables_at, symbols_at}
use Rattle.pol_trans.specs.NameTransRecord.{spell_name_trans, NameTransFits}
use Rattle.pol_trans.specs.NameGroupRecord.{spell_name_group, NameGroupFits}
use Rattle.pol_trans.specs.NameTransitions.{has_groups, entries_at, groups_at}
use Rattle.pol_trans.specs.declared.NameTrans.{NameTrans}
use Rattle.pol_trans.specs.declared.NameTrans.TheVariants.{Entries, Groups}
use Rattle.pol_contexts.specs.IbPkeyRecord.{spell_ibpkey}
use Rattle.pol_contexts.specs.IbEndPortRecord.{spell_ibendport}
use Rattle.pol_contexts.specs.ContextTables.{has_infiniband, contexts_at}
use Rattle.pol_contexts.specs.declared.Contexts.{Contexts}
use Rattle.pol_file.specs.declared.Front.{Front}
use Rattle.pol_file.specs.declared.RuleLists.{RuleLists}
use Rattle.pol_file.specs.declared.LabelLists.{LabelLists}
use Rattle.pol_file.specs.PolicyParts.{front_at, rule_lists_at, label_lists_at}
use Rattle.pol_tree.specs.declared.Tree.{Tree}
use Rattle.pol_tree.specs.PolicyTree.{entries_of, groups_of}
use Rattle.pol_tree.specs.TreeSpelling.{header_of, table_of, spell_front, spell_symbols, spell_rules, spell_contexts, spell_labels}
use Rattle.pol_tree.specs.TreeRanges.{TreeFits}
use Rattle.pol_write.proofs.Findings.{FindsAgain, finds-part, finds-done, finds-as, laws-alone}
use Rattle.pol_write.proofs.ListFindings.{FitsIf, spelled-if}
use Rattle.pol_write.proofs.PartLaws.{commons-laws, classes-laws, roles-laws, types-laws, users-laws, booleans-laws, levels-laws, categories-laws, avtab-laws, condlist-laws, roletrans-laws, roleallow-laws, nametrans-laws, namegroup-laws, rangetrans-laws, sid-laws, named-laws, port-laws, address-laws, fsuse-laws, ibpkey-laws, ibendport-laws, genfs-laws, typemap-laws}

-- ---- what stands before the symbol tables

pub record HasFront (tree : Tree) (front : Front) : Type 0 where
  pub header : front.header ≡ header_of tree
  pub capabilities : front.capabilities ≡ tree.capabilities
  pub permissive : front.permissive ≡ tree.permissive

pub front-found : (tree : Tree) → TreeFits tree → FindsAgain front_at (HasFront tree) (spell_front tree)
unfolding front_at spell_front
front-found tree fits =
    let bitmap = laws-alone (bitmap_at None) spell_bitmap BitmapFits (bitmap_spelled None) (bitmap_again None) in
    finds-as
    (finds-part _ ((laws-alone header_at spell_header HeaderFits header_spelled header_again).again (header_of tree) fits.header) λ header is_header.
    finds-part _ (bitmap.again tree.capabilities fits.capabilities) λ capabilities are_capabilities.
    finds-part _ (bitmap.again tree.permissive fits.permissive) λ permissive are_permissive.
    finds-done _ (record { header = is_header; capabilities = are_capabilities; permissive = are_permissive }))
    (simp (append_assoc, append-nil))

-- ---- the symbol tables

record HasFirst (tree : Tree) (tables : RuleTables) : Type 0 where
  commons : bare tables.commons ≡ table_of tree 0 tree.commons
  classes : bare tables.classes ≡ table_of tree 1 tree.classes
  roles : bare tables.roles ≡ table_of tree 2 tree.roles
  types : bare tables.types ≡ table_of tree 3 tree.types

record HasOthers (tree : Tree) (tables : OtherTables) : Type 0 where
  users : bare tables.users ≡ table_of tree 4 tree.users
  booleans : bare tables.booleans ≡ table_of tree 5 tree.booleans
  levels : bare tables.levels ≡ table_of tree 6 tree.levels
  categories : bare tables.categories ≡ table_of tree 7 tree.categories

pub record HasSymbols (tree : Tree) (symbols : Symbols) : Type 0 where
  pub commons : bare symbols.commons ≡ table_of tree 0 tree.commons
  pub classes : bare symbols.classes ≡ table_of tree 1 tree.classes
  pub roles : bare symbols.roles ≡ table_of tree 2 tree.roles
  pub types : bare symbols.types ≡ table_of tree 3 tree.types
  pub users : bare symbols.users ≡ table_of tree 4 tree.users
  pub booleans : bare symbols.booleans ≡ table_of tree 5 tree.booleans
  pub levels : bare symbols.levels ≡ table_of tree 6 tree.levels
  pub categories : bare symbols.categories ≡ table_of tree 7 tree.categories

-- the first four tables, and the others
abbrev spell_first : Tree → List ℕ
spell_first tree =
    spell_table spell_common (table_of tree 0 tree.commons) ++ spell_table spell_class (table_of tree 1 tree.classes) ++ spell_table spell_role (table_of tree 2 tree.roles) ++ spell_table spell_type (table_of tree 3 tree.types)

abbrev spell_others : Tree → List ℕ
spell_others tree =
    spell_table spell_user (table_of tree 4 tree.users) ++ spell_table spell_boolean (table_of tree 5 tree.booleans) ++ spell_table spell_sensitivity (table_of tree 6 tree.levels) ++ spell_table spell_category (table_of tree 7 tree.categories)

first-found : (tree : Tree) → TreeFits tree → FindsAgain (rule_tables_at tree.version) (HasFirst tree) (spell_first tree)
unfolding rule_tables_at
first-found tree fits =
    finds-as
    (finds-part _ (commons-laws.again (table_of tree 0 tree.commons) fits.commons) λ commons are_commons.
    finds-part _ ((classes-laws tree.version commons).again (table_of tree 1 tree.classes) fits.classes) λ classes are_classes.
    finds-part _ (roles-laws.again (table_of tree 2 tree.roles) fits.roles) λ roles are_roles.
    finds-part _ (types-laws.again (table_of tree 3 tree.types) fits.types) λ types are_types.
    finds-done _ (record { commons = are_commons; classes = are_classes; roles = are_roles; types = are_types }))
    (simp (append_assoc, append-nil))

others-found : (tree : Tree) → TreeFits tree → FindsAgain other_tables_at (HasOthers tree) (spell_others tree)
unfolding other_tables_at
others-found tree fits =
    finds-as
    (finds-part _ (users-laws.again (table_of tree 4 tree.users) fits.users) λ users are_users.
    finds-part _ (booleans-laws.again (table_of tree 5 tree.booleans) fits.booleans) λ booleans are_booleans.
    finds-part _ (levels-laws.again (table_of tree 6 tree.levels) fits.levels) λ levels are_levels.
    finds-part _ (categories-laws.again (table_of tree 7 tree.categories) fits.categories) λ categories are_categories.
    finds-done _ (record { users = are_users; booleans = are_booleans; levels = are_levels; categories = are_categories }))
    (simp (append_assoc, append-nil))

pub symbols-found : (tree : Tree) → TreeFits tree → FindsAgain (symbols_at tree.version) (HasSymbols tree) (spell_symbols tree)
unfolding symbols_at spell_symbols
symbols-found tree fits =
    finds-as
    (finds-part _ (first-found tree fits) λ first has_first.
    finds-part _ (others-found tree fits) λ others has_others.
    finds-done _ (record {
      commons = has_first.commons;
      classes = has_first.classes;
      roles = has_first.roles;
      types = has_first.types;
      users = has_others.users;
      booleans = has_others.booleans;
      levels = has_others.levels;
      categories = has_others.categories;
    }))
    (simp (append_assoc, append-nil))

-- ---- the rules

-- the file-name transitions are those of the tree, in the form that the version has
pub record HasNames (tree : Tree) (trans : NameTrans) : Type 0 where
  pub entries : entries_of trans ≡ tree.nametrans
  pub groups : groups_of trans ≡ tree.namegroup

-- the list of the other form is empty
abbrev pub HasOneForm : Bool → Tree → Type 0
HasOneForm true tree = tree.nametrans ≡ []
HasOneForm false tree = tree.namegroup ≡ []

names-found : (grouped : Bool) (tree : Tree) → CountedFits NameTransFits tree.nametrans → CountedFits NameGroupFits tree.namegroup → HasOneForm grouped tree
    → FindsAgain (if grouped then groups_at else entries_at) (HasNames tree) (if grouped then spell_counted spell_name_group tree.namegroup else spell_counted spell_name_trans tree.nametrans)
names-found true tree entries-fit groups-fit none =
    finds-as
    (finds-part _ (namegroup-laws.again tree.namegroup groups-fit) λ groups are.
    finds-done (Groups groups) (record { entries = sym none; groups = are }))
    (simp append-nil)
names-found false tree entries-fit groups-fit none =
    finds-as
    (finds-part _ (nametrans-laws.again tree.nametrans entries-fit) λ entries are.
    finds-done (Entries entries) (record { entries = are; groups = sym none }))
    (simp append-nil)

pub record HasRules (tree : Tree) (rules : RuleLists) : Type 0 where
  pub avtab : values_of rules.table ≡ tree.avtab
  pub condlist : values_of rules.conditionals ≡ tree.condlist
  pub roletrans : values_of rules.role_trans ≡ tree.roletrans
  pub roleallow : values_of rules.role_allows ≡ tree.roleallow
  pub names : HasNames tree rules.name_trans

pub rules-found : (tree : Tree) → TreeFits tree → HasOneForm (has_groups tree.version) tree → FindsAgain (rule_lists_at tree.version) (HasRules tree) (spell_rules tree)
unfolding rule_lists_at spell_rules
rules-found tree fits form =
    finds-as
    (finds-part _ ((avtab-laws tree.version).again tree.avtab fits.avtab) λ table is_avtab.
    finds-part _ ((condlist-laws tree.version).again tree.condlist fits.condlist) λ conditionals is_condlist.
    finds-part _ (roletrans-laws.again tree.roletrans fits.roletrans) λ role_trans is_roletrans.
    finds-part _ (roleallow-laws.again tree.roleallow fits.roleallow) λ role_allows is_roleallow.
    finds-part _ (names-found (has_groups tree.version) tree fits.nametrans fits.namegroup form) λ name_trans has_names.
    finds-done _ (record { avtab = is_avtab; condlist = is_condlist; roletrans = is_roletrans; roleallow = is_roleallow; names = has_names }))
    (simp (append_assoc, append-nil))

-- ---- what stands behind those

pub record HasContexts (tree : Tree) (contexts : Contexts) : Type 0 where
  pub sid : values_of contexts.sid ≡ tree.sid
  pub fs : values_of contexts.fs ≡ tree.fs
  pub port : values_of contexts.port ≡ tree.port
  pub netif : values_of contexts.netif ≡ tree.netif
  pub node : values_of contexts.node ≡ tree.node
  pub fsuse : values_of contexts.fsuse ≡ tree.fsuse
  pub node6 : values_of contexts.node6 ≡ tree.node6
  pub ibpkey : values_of contexts.ibpkey ≡ tree.ibpkey
  pub ibendport : values_of contexts.ibendport ≡ tree.ibendport

-- a list that is in the file fits, and one that is not is empty
pub fits-if : {A : Type 0} (there : Bool) (fits : List A → Type 0) (xs : List A) → fits xs → (there ≡ false → xs ≡ []) → FitsIf there fits xs
fits-if true fits xs h none = h
fits-if false fits xs h none = none refl

-- the tables of InfiniBand are empty where the version does not have them
pub record HasNoInfiniband (tree : Tree) : Type 0 where
  pub ibpkey : has_infiniband tree.version ≡ false → tree.ibpkey ≡ []
  pub ibendport : has_infiniband tree.version ≡ false → tree.ibendport ≡ []

contexts-found : (tree : Tree) → TreeFits tree → HasNoInfiniband tree → FindsAgain (contexts_at tree.version) (HasContexts tree) (spell_contexts tree)
unfolding contexts_at spell_contexts
contexts-found tree fits none =
    let there = has_infiniband tree.version in
    finds-as
    (finds-part _ (sid-laws.again tree.sid fits.sid) λ sid is_sid.
    finds-part _ ((named-laws FS_COUNT FS_LEN FS_NAME).again tree.fs fits.fs) λ fs is_fs.
    finds-part _ (port-laws.again tree.port fits.port) λ port is_port.
    finds-part _ ((named-laws NETIF_COUNT NETIF_LEN NETIF_NAME).again tree.netif fits.netif) λ netif is_netif.
    finds-part _ ((address-laws NODE_COUNT NODE_ADDRESS NODE_MASK 4).again tree.node fits.node) λ node is_node.
    finds-part _ (fsuse-laws.again tree.fsuse fits.fsuse) λ fsuse is_fsuse.
    finds-part _ ((address-laws NODE6_COUNT NODE6_ADDRESS NODE6_MASK 16).again tree.node6 fits.node6) λ node6 is_node6.
    finds-part _ ((ibpkey-laws there).again tree.ibpkey (fits-if there _ tree.ibpkey fits.ibpkey none.ibpkey)) λ ibpkey is_ibpkey.
    finds-part _ ((ibendport-laws there).again tree.ibendport (fits-if there _ tree.ibendport fits.ibendport none.ibendport)) λ ibendport is_ibendport.
    finds-done _ (record { sid = is_sid; fs = is_fs; port = is_port; netif = is_netif; node = is_node; fsuse = is_fsuse; node6 = is_node6; ibpkey = is_ibpkey; ibendport = is_ibendport }))
    (rw (← spelled-if there (spell_counted spell_ibpkey tree.ibpkey) (spell_counted spell_ibendport tree.ibendport)) (simp (append_assoc, append-nil)))

pub record HasLabels (tree : Tree) (labels : LabelLists) : Type 0 where
  pub contexts : HasContexts tree labels.contexts
  pub genfs : values_of labels.genfs ≡ tree.genfs
  pub rangetrans : values_of labels.range_trans ≡ tree.rangetrans
  pub typemap : values_of labels.type_rows ≡ tree.typemap

pub labels-found : (tree : Tree) (types : ℕ) → TreeFits tree → HasNoInfiniband tree → length tree.typemap ≡ types → FindsAgain (label_lists_at tree.version types) (HasLabels tree) (spell_labels tree)
unfolding label_lists_at spell_labels
labels-found tree types fits none rows =
    finds-as
    (finds-part _ (contexts-found tree fits none) λ contexts has_contexts.
    finds-part _ (genfs-laws.again tree.genfs fits.genfs) λ genfs is_genfs.
    finds-part _ (rangetrans-laws.again tree.rangetrans fits.rangetrans) λ range_trans is_rangetrans.
    finds-part _ ((typemap-laws types).again tree.typemap (rows, fits.typemap)) λ type_rows is_typemap.
    finds-done _ (record { contexts = has_contexts; genfs = is_genfs; rangetrans = is_rangetrans; typemap = is_typemap }))
    (simp (append_assoc, append-nil))
