-- The bytes that a policy was read from are the spelling of its tree, and the tree fits: each part of it.
use Rattle.std.proofs.Common.{◌≡◌, ℕ, Bool, true, false, None, Ok, List, [], ◌++◌, drop, refl, sym, ap, ◌∙◌, append_assoc, if◌then◌else◌, arith, lit<}
use Rattle.std.proofs.lemmas.List.{append-nil, drop_all}
use Rattle.std.specs.List.{flat_map, AllByRecursion}
use Rattle.pol_fields.specs.declared.Field.{Field}
use Rattle.pol_fields.specs.declared.field.Field.{Field}
use Rattle.pol_fields.specs.declared.fields.TheConstants.{FS_COUNT, FS_LEN, FS_NAME, NETIF_COUNT, NETIF_LEN, NETIF_NAME, NODE_COUNT, NODE_ADDRESS, NODE_MASK, NODE6_COUNT, NODE6_ADDRESS, NODE6_MASK, END_END}
use Rattle.pol_cursor.specs.Parts.{end_at, spell_counted, CountedFits}
use Rattle.pol_cursor.specs.Spelling.{AreBytes}
use Rattle.pol_cursor.specs.Laws.{Reads, IsSpelling}
use Rattle.pol_cursor.specs.References.{values_of}
use Rattle.pol_cursor.proofs.Laws.{Reads-part, Reads-then, Reads-done}
use Rattle.pol_bitmap.specs.Bitmap.{spell_bitmap, BitmapFits}
use Rattle.pol_bitmap.proofs.Laws.{bitmap_spelled}
use Rattle.pol_file.specs.HeaderRecord.{spell_header, HeaderFits}
use Rattle.pol_file.proofs.HeaderLaws.{header_spelled}
use Rattle.pol_symtab.specs.SymbolTables.{bare, spell_table, TableFits}
use Rattle.pol_commons.specs.CommonRecord.{spell_common, CommonFits}
use Rattle.pol_datums.specs.RoleRecord.{spell_role, RoleFits}
use Rattle.pol_datums.specs.TypeRecord.{spell_type, TypeFits}
use Rattle.pol_datums.specs.BooleanRecord.{spell_boolean, BooleanFits}
use Rattle.pol_datums.specs.SensitivityRecord.{spell_sensitivity, SensitivityFits}
use Rattle.pol_datums.specs.CategoryRecord.{spell_category, CategoryFits}
use Rattle.pol_classes.specs.ClassRecord.{spell_class, ClassFits}
use Rattle.pol_symbols.specs.UserRecord.{spell_user, UserFits}
use Rattle.pol_symbols.specs.declared.Symbols.{Symbols}
use Rattle.pol_symbols.specs.declared.RuleTables.{RuleTables}
use Rattle.pol_symbols.specs.declared.OtherTables.{OtherTables}
use Rattle.pol_symbols.specs.PolicySymbols.{rule_tables_at, other_tables_at, symbols_at}
use Rattle.pol_avtab.specs.AvRecord.{spell_av, AvFits}
use Rattle.pol_conditionals.specs.CondNodeRecord.{spell_condnode, CondNodeFits}
use Rattle.pol_trans.specs.RoleTransRecord.{spell_role_trans, RoleTransFits}
use Rattle.pol_trans.specs.RoleAllowRecord.{spell_role_allow, RoleAllowFits}
use Rattle.pol_trans.specs.NameTransRecord.{spell_name_trans, NameTransFits}
use Rattle.pol_trans.specs.NameGroupRecord.{spell_name_group, NameGroupFits}
use Rattle.pol_trans.specs.RangeTransRecord.{spell_range_trans, RangeTransFits}
use Rattle.pol_trans.specs.NameTransitions.{has_groups, entries_at, groups_at}
use Rattle.pol_trans.specs.declared.NameTrans.{NameTrans}
use Rattle.pol_trans.specs.declared.NameTrans.TheVariants.{Entries, Groups}
use Rattle.pol_contexts.specs.SidRecord.{spell_sid, SidFits}
use Rattle.pol_contexts.specs.NamedRecord.{spell_named, NamedFits}
use Rattle.pol_contexts.specs.PortRecord.{spell_port, PortFits}
use Rattle.pol_contexts.specs.AddressRecord.{spell_address, AddressFits}
use Rattle.pol_contexts.specs.FsUseRecord.{spell_fsuse, FsUseFits}
use Rattle.pol_contexts.specs.IbPkeyRecord.{spell_ibpkey, IbPkeyFits}
use Rattle.pol_contexts.specs.IbEndPortRecord.{spell_ibendport, IbEndPortFits}
use Rattle.pol_contexts.specs.ContextTables.{has_infiniband, contexts_at}
use Rattle.pol_contexts.specs.declared.Contexts.{Contexts}
use Rattle.pol_genfs.specs.GenfsRecord.{spell_genfs, GenfsFits}
use Rattle.pol_file.specs.declared.Front.{Front}
use Rattle.pol_file.specs.declared.RuleLists.{RuleLists}
use Rattle.pol_file.specs.declared.LabelLists.{LabelLists}
use Rattle.pol_file.specs.declared.Parts.{Parts}
use Rattle.pol_file.specs.PolicyParts.{front_at, rule_lists_at, label_lists_at, policy_at}
use Rattle.pol_file.specs.Acceptance.{accept}
use Rattle.pol_tree.specs.declared.Tree.{Tree}
use Rattle.pol_tree.specs.PolicyTree.{entries_of, groups_of, tree_of}
use Rattle.pol_tree.specs.TreeSpelling.{spell_if, spell_front, spell_symbols, spell_rules, spell_contexts, spell_labels, spell}
use Rattle.pol_tree.specs.TreeRanges.{TreeFits}
use Rattle.pol_write.proofs.AcceptedPolicies.{accepted_is_read}
use Rattle.pol_write.proofs.CutParts.{ends_there}
use Rattle.pol_write.proofs.ListFindings.{FitsIf, spelled-if}
use Rattle.pol_write.proofs.PartLaws.{commons-laws, classes-laws, roles-laws, types-laws, users-laws, booleans-laws, levels-laws, categories-laws, avtab-laws, condlist-laws, roletrans-laws, roleallow-laws, nametrans-laws, namegroup-laws, rangetrans-laws, sid-laws, named-laws, port-laws, address-laws, fsuse-laws, ibpkey-laws, ibendport-laws, genfs-laws, typemap-laws}

-- A part of a policy was read from the text that spells it in the policy's tree, whatever the other parts are, and it fits.
record IsSpelledIn {A : Type 0} (within : Parts → A → Parts) (spell_part : Tree → List ℕ) (fits : A → Type 0) (text : List ℕ) (x : A) : Type 0 where
  same : (policy : Parts) → text ≡ spell_part (tree_of (within policy x))
  fitting : fits x

-- ---- texts one behind the other

three-texts : (a b c : List ℕ) → a ++ (b ++ (c ++ [])) ≡ a ++ b ++ c
three-texts a b c = simp (append_assoc, append-nil)

four-texts : (a b c d : List ℕ) → a ++ (b ++ (c ++ (d ++ []))) ≡ a ++ b ++ c ++ d
four-texts a b c d = simp (append_assoc, append-nil)

five-texts : (a b c d e : List ℕ) → a ++ (b ++ (c ++ (d ++ (e ++ [])))) ≡ a ++ b ++ c ++ d ++ e
five-texts a b c d e = simp (append_assoc, append-nil)

-- four, and then four others
eight-texts : (a b c d e f g h : List ℕ) → (a ++ b ++ c ++ d) ++ ((e ++ f ++ g ++ h) ++ []) ≡ a ++ b ++ c ++ d ++ e ++ f ++ g ++ h
eight-texts a b c d e f g h = simp (append_assoc, append-nil)

-- seven, and then two that are there together or are not
nine-texts : (a b c d e f g h i : List ℕ) (there : Bool) → a ++ (b ++ (c ++ (d ++ (e ++ (f ++ (g ++ (spell_if there h ++ (spell_if there i ++ [])))))))) ≡ a ++ b ++ c ++ d ++ e ++ f ++ g ++ spell_if there (h ++ i)
nine-texts a b c d e f g h i there = rw (← spelled-if there h i) (simp (append_assoc, append-nil))

-- ---- what stands before the symbol tables

record FrontFits (front : Front) : Type 0 where
  header : HeaderFits front.header
  capabilities : BitmapFits front.capabilities
  permissive : BitmapFits front.permissive

front-spelled : Reads front_at (IsSpelledIn (λ policy front. record policy { front = front }) spell_front FrontFits)
unfolding front_at tree_of spell_front
front-spelled =
    Reads-part header_spelled λ header header-fit.
    Reads-part (bitmap_spelled None) λ capabilities capabilities-fit.
    Reads-part (bitmap_spelled None) λ permissive permissive-fit.
    Reads-done _ (record { header = header; capabilities = capabilities; permissive = permissive })
    (record { same = λ policy. three-texts (spell_header header) (spell_bitmap capabilities) (spell_bitmap permissive); fitting = record { header = header-fit; capabilities = capabilities-fit; permissive = permissive-fit } })

-- ---- the symbol tables

record FirstFit (version : ℕ) (tables : RuleTables) : Type 0 where
  commons : TableFits CommonFits (bare tables.commons)
  classes : TableFits (ClassFits version) (bare tables.classes)
  roles : TableFits RoleFits (bare tables.roles)
  types : TableFits TypeFits (bare tables.types)

record OthersFit (tables : OtherTables) : Type 0 where
  users : TableFits UserFits (bare tables.users)
  booleans : TableFits BooleanFits (bare tables.booleans)
  levels : TableFits SensitivityFits (bare tables.levels)
  categories : TableFits CategoryFits (bare tables.categories)

record SymbolsFit (version : ℕ) (symbols : Symbols) : Type 0 where
  first : FirstFit version (record { commons = symbols.commons; classes = symbols.classes; roles = symbols.roles; types = symbols.types })
  others : OthersFit (record { users = symbols.users; booleans = symbols.booleans; levels = symbols.levels; categories = symbols.categories })

-- the first four, and the others
abbrev spell_first : RuleTables → List ℕ
spell_first tables = spell_table spell_common (bare tables.commons) ++ spell_table spell_class (bare tables.classes) ++ spell_table spell_role (bare tables.roles) ++ spell_table spell_type (bare tables.types)

abbrev spell_others : OtherTables → List ℕ
spell_others tables = spell_table spell_user (bare tables.users) ++ spell_table spell_boolean (bare tables.booleans) ++ spell_table spell_sensitivity (bare tables.levels) ++ spell_table spell_category (bare tables.categories)

first-spelled : (version : ℕ) → Reads (rule_tables_at version) (IsSpelling spell_first (FirstFit version))
unfolding rule_tables_at
first-spelled version =
    Reads-part commons-laws.spelled λ commons commons-fit.
    Reads-part ((classes-laws version commons).spelled) λ classes classes-fit.
    Reads-part roles-laws.spelled λ roles roles-fit.
    Reads-part types-laws.spelled λ types types-fit.
    Reads-done _ (record { commons = commons; classes = classes; roles = roles; types = types })
    (record { same = four-texts (spell_table spell_common (bare commons)) (spell_table spell_class (bare classes)) (spell_table spell_role (bare roles)) (spell_table spell_type (bare types)); fitting = record { commons = commons-fit; classes = classes-fit; roles = roles-fit; types = types-fit } })

others-spelled : Reads other_tables_at (IsSpelling spell_others OthersFit)
unfolding other_tables_at
others-spelled =
    Reads-part users-laws.spelled λ users users-fit.
    Reads-part booleans-laws.spelled λ booleans booleans-fit.
    Reads-part levels-laws.spelled λ levels levels-fit.
    Reads-part categories-laws.spelled λ categories categories-fit.
    Reads-done _ (record { users = users; booleans = booleans; levels = levels; categories = categories })
    (record { same = four-texts (spell_table spell_user (bare users)) (spell_table spell_boolean (bare booleans)) (spell_table spell_sensitivity (bare levels)) (spell_table spell_category (bare categories)); fitting = record { users = users-fit; booleans = booleans-fit; levels = levels-fit; categories = categories-fit } })

symbols-spelled : (version : ℕ) → Reads (symbols_at version) (IsSpelledIn (λ policy symbols. record policy { symbols = symbols }) spell_symbols (SymbolsFit version))
unfolding symbols_at tree_of spell_symbols
symbols-spelled version =
    Reads-part (first-spelled version) λ first first-fits.
    Reads-part others-spelled λ others others-fits.
    Reads-done _ _ (record {
      same = λ policy.
          eight-texts (spell_table spell_common (bare first.commons)) (spell_table spell_class (bare first.classes)) (spell_table spell_role (bare first.roles)) (spell_table spell_type (bare first.types)) (spell_table spell_user (bare others.users)) (spell_table spell_boolean (bare others.booleans)) (spell_table spell_sensitivity (bare others.levels)) (spell_table spell_category (bare others.categories));
      fitting = record { first = first-fits; others = others-fits };
    })

-- ---- the rules

no-records : {A : Type 0} (fits : A → Type 0) → CountedFits fits []
no-records fits = record { count = lit< tt; items = tt }

record NamesFit (trans : NameTrans) : Type 0 where
  entries : CountedFits NameTransFits (entries_of trans)
  groups : CountedFits NameGroupFits (groups_of trans)

abbrev spell_names : Bool → NameTrans → List ℕ
spell_names grouped trans = if grouped then spell_counted spell_name_group (groups_of trans) else spell_counted spell_name_trans (entries_of trans)

names-spelled : (grouped : Bool) → Reads (if grouped then groups_at else entries_at) (IsSpelling (spell_names grouped) NamesFit)
names-spelled true =
    Reads-part namegroup-laws.spelled λ groups groups-fit.
    Reads-done _ (Groups groups) (record { same = rw append-nil refl; fitting = record { entries = no-records NameTransFits; groups = groups-fit } })
names-spelled false =
    Reads-part nametrans-laws.spelled λ entries entries-fit.
    Reads-done _ (Entries entries) (record { same = rw append-nil refl; fitting = record { entries = entries-fit; groups = no-records NameGroupFits } })

record RulesFit (rules : RuleLists) : Type 0 where
  avtab : CountedFits AvFits (values_of rules.table)
  condlist : CountedFits CondNodeFits (values_of rules.conditionals)
  roletrans : CountedFits RoleTransFits (values_of rules.role_trans)
  roleallow : CountedFits RoleAllowFits (values_of rules.role_allows)
  names : NamesFit rules.name_trans

rules-spelled : (front : Front) → Reads (rule_lists_at front.header.version) (IsSpelledIn (λ policy rules. record policy { front = front; rules = rules }) spell_rules RulesFit)
unfolding rule_lists_at tree_of spell_rules
rules-spelled front =
    Reads-part ((avtab-laws front.header.version).spelled) λ table table-fit.
    Reads-part ((condlist-laws front.header.version).spelled) λ conditionals conditionals-fit.
    Reads-part roletrans-laws.spelled λ role_trans role_trans-fit.
    Reads-part roleallow-laws.spelled λ role_allows role_allows-fit.
    Reads-part (names-spelled (has_groups front.header.version)) λ name_trans name_trans-fit.
    Reads-done _ (record { table = table; conditionals = conditionals; role_trans = role_trans; role_allows = role_allows; name_trans = name_trans })
    (record {
      same = λ policy.
          five-texts (spell_counted spell_av (values_of table)) (spell_counted spell_condnode (values_of conditionals)) (spell_counted spell_role_trans (values_of role_trans)) (spell_counted spell_role_allow (values_of role_allows)) (spell_names (has_groups front.header.version) name_trans);
      fitting = record { avtab = table-fit; condlist = conditionals-fit; roletrans = role_trans-fit; roleallow = role_allows-fit; names = name_trans-fit };
    })

-- ---- what stands behind those

-- a list that is in the file or is empty
there-or-empty : {A : Type 0} (there : Bool) (fits : A → Type 0) (xs : List A) → FitsIf there (CountedFits fits) xs → CountedFits fits xs
there-or-empty true fits xs h = h
there-or-empty false fits xs none = rw none (no-records fits)

record ContextsFit (contexts : Contexts) : Type 0 where
  sid : CountedFits SidFits (values_of contexts.sid)
  fs : CountedFits NamedFits (values_of contexts.fs)
  port : CountedFits PortFits (values_of contexts.port)
  netif : CountedFits NamedFits (values_of contexts.netif)
  node : CountedFits (AddressFits 4) (values_of contexts.node)
  fsuse : CountedFits FsUseFits (values_of contexts.fsuse)
  node6 : CountedFits (AddressFits 16) (values_of contexts.node6)
  ibpkey : CountedFits IbPkeyFits (values_of contexts.ibpkey)
  ibendport : CountedFits IbEndPortFits (values_of contexts.ibendport)

contexts-spelled : (front : Front) → Reads (contexts_at front.header.version) (IsSpelledIn (λ policy contexts. record policy { front = front; labels = record policy.labels { contexts = contexts } }) spell_contexts ContextsFit)
unfolding contexts_at tree_of spell_contexts
contexts-spelled front =
    let there = has_infiniband front.header.version in
    Reads-part sid-laws.spelled λ sid sid-fits.
    Reads-part ((named-laws FS_COUNT FS_LEN FS_NAME).spelled) λ fs fs-fits.
    Reads-part port-laws.spelled λ port port-fits.
    Reads-part ((named-laws NETIF_COUNT NETIF_LEN NETIF_NAME).spelled) λ netif netif-fits.
    Reads-part ((address-laws NODE_COUNT NODE_ADDRESS NODE_MASK 4).spelled) λ node node-fits.
    Reads-part fsuse-laws.spelled λ fsuse fsuse-fits.
    Reads-part ((address-laws NODE6_COUNT NODE6_ADDRESS NODE6_MASK 16).spelled) λ node6 node6-fits.
    Reads-part ((ibpkey-laws there).spelled) λ ibpkey ibpkey-fits.
    Reads-part ((ibendport-laws there).spelled) λ ibendport ibendport-fits.
    Reads-done _ (record { sid = sid; fs = fs; port = port; netif = netif; node = node; fsuse = fsuse; node6 = node6; ibpkey = ibpkey; ibendport = ibendport })
    (record {
      same = λ policy.
          nine-texts (spell_counted spell_sid (values_of sid)) (spell_counted spell_named (values_of fs)) (spell_counted spell_port (values_of port)) (spell_counted spell_named (values_of netif)) (spell_counted (spell_address {width = 4}) (values_of node)) (spell_counted spell_fsuse (values_of fsuse)) (spell_counted (spell_address {width = 16}) (values_of node6)) (spell_counted spell_ibpkey (values_of ibpkey)) (spell_counted spell_ibendport (values_of ibendport)) there;
      fitting = record {
        sid = sid-fits;
        fs = fs-fits;
        port = port-fits;
        netif = netif-fits;
        node = node-fits;
        fsuse = fsuse-fits;
        node6 = node6-fits;
        ibpkey = there-or-empty there IbPkeyFits (values_of ibpkey) ibpkey-fits;
        ibendport = there-or-empty there IbEndPortFits (values_of ibendport) ibendport-fits;
      };
    })

record LabelsFit (labels : LabelLists) : Type 0 where
  contexts : ContextsFit labels.contexts
  genfs : CountedFits GenfsFits (values_of labels.genfs)
  rangetrans : CountedFits RangeTransFits (values_of labels.range_trans)
  typemap : AllByRecursion BitmapFits (values_of labels.type_rows)

labels-spelled : (front : Front) (types : ℕ) → Reads (label_lists_at front.header.version types) (IsSpelledIn (λ policy labels. record policy { front = front; labels = labels }) spell_labels LabelsFit)
unfolding label_lists_at tree_of spell_labels
labels-spelled front types =
    Reads-then _ _ _ _ (contexts-spelled front) λ text contexts contexts-are.
    Reads-part genfs-laws.spelled λ genfs genfs-fits.
    Reads-part rangetrans-laws.spelled λ range_trans range_trans-fits.
    Reads-part ((typemap-laws types).spelled) λ type_rows type_rows-fits.
    let labels : LabelLists = record { contexts = contexts; genfs = genfs; range_trans = range_trans; type_rows = type_rows } in
    Reads-done _ labels (record {
      same = λ policy. rw (contexts-are.same (record policy { labels = labels }))
          (four-texts (spell_contexts (tree_of (record policy { front = front; labels = labels }))) (spell_counted spell_genfs (values_of genfs)) (spell_counted spell_range_trans (values_of range_trans)) (flat_map spell_bitmap (values_of type_rows)));
      fitting = record { contexts = contexts-are.fitting; genfs = genfs-fits; rangetrans = range_trans-fits; typemap = type_rows-fits.1 };
    })

-- ---- the whole policy

tree-fits : (policy : Parts) → FrontFits policy.front → SymbolsFit policy.front.header.version policy.symbols → RulesFit policy.rules → LabelsFit policy.labels → TreeFits (tree_of policy)
unfolding tree_of
tree-fits policy front symbols rules labels =
    let first = symbols.first in
    let others = symbols.others in
    let contexts = labels.contexts in
    record {
      header = front.header;
      capabilities = front.capabilities;
      permissive = front.permissive;
      nprims = refl;
      commons = first.commons;
      classes = first.classes;
      roles = first.roles;
      types = first.types;
      users = others.users;
      booleans = others.booleans;
      levels = others.levels;
      categories = others.categories;
      avtab = rules.avtab;
      condlist = rules.condlist;
      roletrans = rules.roletrans;
      roleallow = rules.roleallow;
      nametrans = rules.names.entries;
      namegroup = rules.names.groups;
      sid = contexts.sid;
      fs = contexts.fs;
      port = contexts.port;
      netif = contexts.netif;
      node = contexts.node;
      fsuse = contexts.fsuse;
      node6 = contexts.node6;
      ibpkey = contexts.ibpkey;
      ibendport = contexts.ibendport;
      genfs = labels.genfs;
      rangetrans = labels.rangetrans;
      typemap = labels.typemap;
    }

end-spelled : (d : Field) → Reads (end_at d) (IsSpelling (λ ended. []) (λ ended. Unit {0}))
end-spelled d = record {
  spelled = λ bytes place ended next are e.
      let h = ends_there d bytes place ended next e in
      record { text = []; stands = record { parts = ap (λ (i : ℕ). drop i bytes) h.1; ends = omega (arith, h.1) }; holds = record { same = refl; fitting = tt } };
}

policy-spelled : Reads policy_at (IsSpelling (λ policy. spell (tree_of policy)) (λ policy. TreeFits (tree_of policy)))
unfolding policy_at spell
policy-spelled =
    Reads-then _ _ _ _ front-spelled λ front_text front front-is.
    Reads-then _ _ _ _ (symbols-spelled front.header.version) λ symbols_text symbols symbols-are.
    Reads-then _ _ _ _ (rules-spelled front) λ rules_text rules rules-are.
    Reads-then _ _ _ _ (labels-spelled front symbols.types.nprim) λ labels_text labels labels-are.
    Reads-part (end-spelled END_END) λ ended ended-fits.
    let policy : Parts = record { front = front; symbols = symbols; rules = rules; labels = labels } in
    Reads-done _ policy (record {
      same = rw (front-is.same policy, symbols-are.same policy, rules-are.same policy, labels-are.same policy) (four-texts (spell_front (tree_of policy)) (spell_symbols (tree_of policy)) (spell_rules (tree_of policy)) (spell_labels (tree_of policy)));
      fitting = tree-fits policy front-is.fitting symbols-are.fitting rules-are.fitting labels-are.fitting;
    })

-- ---- acceptance

pub accepted_tree_is_spelled : (bytes : List ℕ) (policy : Parts) → AreBytes bytes → accept bytes ≡ Ok policy → spell (tree_of policy) ≡ bytes
accepted_tree_is_spelled bytes policy are e =
    let is = accepted_is_read bytes policy e in
    let all = policy-spelled.spelled bytes 0 policy is.next are is.read in
    let none : drop is.next bytes ≡ [] = drop_all is.next bytes is.whole in
    sym (all.stands.parts ∙ ap (λ (rest : List ℕ). all.text ++ rest) none ∙ append-nil all.text ∙ all.holds.same)

pub accepted_tree_fits : (bytes : List ℕ) (policy : Parts) → AreBytes bytes → accept bytes ≡ Ok policy → TreeFits (tree_of policy)
accepted_tree_fits bytes policy are e =
    let is = accepted_is_read bytes policy e in
    (policy-spelled.spelled bytes 0 policy is.next are is.read).holds.fitting
