-- No reference of a policy that is accepted is undeclared at another version.
use Rattle.std.proofs.Common.{◌≡◌, ℕ, Bool, true, false, Option, Some, None, List, [], ◌∷◌, ◌++◌, refl, sym, ◌∙◌, if◌then◌else◌}
use Rattle.std.specs.Prelude.{is_some}
use Rattle.std.specs.List.{AllByRecursion}
use Rattle.pol_fields.specs.declared.Fault.{Fault}
use Rattle.pol_fields.specs.declared.TableKind.{TableKind}
use Rattle.pol_fields.specs.declared.TableKind.TheVariants.{Classes, Types}
use Rattle.pol_cursor.specs.References.{Placed, values_of, Reference, Named, dangling_of, references_in}
use Rattle.pol_symbols.specs.PolicySymbols.{name_in}
use Rattle.pol_avtab.specs.AvRecord.{av_references}
use Rattle.pol_conditionals.specs.CondNodeRecord.{condnode_references}
use Rattle.pol_trans.specs.declared.NameTransRec.{NameTransRec}
use Rattle.pol_trans.specs.declared.NameGroupRec.{NameGroupRec}
use Rattle.pol_trans.specs.RoleTransRecord.{role_trans_references}
use Rattle.pol_trans.specs.RoleAllowRecord.{role_allow_references}
use Rattle.pol_trans.specs.RangeTransRecord.{range_trans_references}
use Rattle.pol_contexts.specs.declared.Contexts.{Contexts}
use Rattle.pol_contexts.specs.SidRecord.{sid_references}
use Rattle.pol_contexts.specs.NamedRecord.{named_references}
use Rattle.pol_contexts.specs.PortRecord.{port_references}
use Rattle.pol_contexts.specs.AddressRecord.{address_references}
use Rattle.pol_contexts.specs.FsUseRecord.{fsuse_references}
use Rattle.pol_contexts.specs.IbPkeyRecord.{ibpkey_references}
use Rattle.pol_contexts.specs.IbEndPortRecord.{ibendport_references}
use Rattle.pol_genfs.specs.GenfsRecord.{genfs_references}
use Rattle.pol_file.specs.declared.RuleLists.{RuleLists}
use Rattle.pol_file.specs.declared.LabelLists.{LabelLists}
use Rattle.pol_file.specs.declared.Parts.{Parts}
use Rattle.pol_file.specs.PolicyReferences.{symbol_references, name_transition_references, rule_references, context_references, label_references, policy_references}
use Rattle.pol_file.specs.Acceptance.{undeclared}
use Rattle.pol_tree.specs.declared.Tree.{Tree}
use Rattle.pol_write.proofs.FoundParts.{HasSymbols, HasRules, HasContexts, HasLabels}
use Rattle.pol_moved.proofs.ListFacts.{all-so}
use Rattle.pol_moved.proofs.NamedValues.{AreNamed, none-dangling, nothing-named, named-first, ◌⊕◌}
use Rattle.pol_sound.proofs.MovedTree.{moved_tree}
use Rattle.pol_sound.proofs.MentionedValues.{IsPlaceless, named-kept, av-placeless, condnode-placeless, role_trans-placeless, role_allow-placeless, range_trans-placeless, sid-placeless, named-placeless, port-placeless, address-placeless, fsuse-placeless, ibpkey-placeless, ibendport-placeless, genfs-placeless}
use Rattle.pol_sound.proofs.KeptReferences.{AreKept, same-named, front-named, back-named, SymbolsNamed, symbols-split, symbols-named, NamedEntry, NamedGroup, names-to}

-- ---- references that are declared

first-declared : (b : Bool) (rest : Option Fault) (fault : Fault) → (if b then rest else Some fault) ≡ None → (b ≡ true) × (rest ≡ None)
first-declared true rest fault e = (refl, e)
first-declared false rest fault e = absurd cc

pub dangling-named : (named : Named) (references : List Reference) → dangling_of named references ≡ None → AreNamed named references
dangling-named named [] e = nothing-named
dangling-named named (r ∷ rs) e =
    let first = first-declared (is_some (named r.table r.value)) (dangling_of named rs) _ e in
    named-first first.0 (dangling-named named rs first.1)

module _ (a b : Named) (same : (table : TableKind) (value : ℕ) → is_some (a table value) ≡ is_some (b table value)) where
  kept : {A : Type 0} (references : Placed A → List Reference) → IsPlaceless references → {xs : List A} (rs ss : List (Placed A)) → values_of rs ≡ xs → values_of ss ≡ xs → AreNamed a (references_in references rs) → AreNamed b (references_in references ss)
  kept references placeless rs ss e f h = named-kept a b same references placeless rs ss (e ∙ sym f) h

  -- ---- the rules

  rules-named : (old new : Tree) (was is : RuleLists) → HasRules old was → HasRules new is → old.avtab ≡ new.avtab → old.condlist ≡ new.condlist → old.roletrans ≡ new.roletrans → old.roleallow ≡ new.roleallow
      → AreNamed a (rule_references was) → AreNamed b (name_transition_references is.name_trans) → AreNamed b (rule_references is)
  rules-named old new was is has has_new avtab condlist roletrans roleallow h names =
      let table = references_in av_references was.table in
      let nodes = references_in condnode_references was.conditionals in
      let trans = references_in role_trans_references was.role_trans in
      let allows = references_in role_allow_references was.role_allows in
      let four = front-named a (table ++ nodes ++ trans ++ allows) (name_transition_references was.name_trans) h in
      let three = front-named a (table ++ nodes ++ trans) allows four in
      let two = front-named a (table ++ nodes) trans three in
      kept av_references av-placeless was.table is.table (has.avtab ∙ avtab) has_new.avtab (front-named a table nodes two)
      ⊕ kept condnode_references condnode-placeless was.conditionals is.conditionals (has.condlist ∙ condlist) has_new.condlist (back-named a table nodes two)
      ⊕ kept role_trans_references role_trans-placeless was.role_trans is.role_trans (has.roletrans ∙ roletrans) has_new.roletrans (back-named a (table ++ nodes) trans three)
      ⊕ kept role_allow_references role_allow-placeless was.role_allows is.role_allows (has.roleallow ∙ roleallow) has_new.roleallow (back-named a (table ++ nodes ++ trans) allows four)
      ⊕ names

  -- ---- what stands behind them

  contexts-named : (tree new : Tree) (was is : Contexts) → HasContexts tree was → HasContexts new is → tree.sid ≡ new.sid → tree.fs ≡ new.fs → tree.port ≡ new.port → tree.netif ≡ new.netif → tree.node ≡ new.node → tree.fsuse ≡ new.fsuse
      → tree.node6 ≡ new.node6 → tree.ibpkey ≡ new.ibpkey → tree.ibendport ≡ new.ibendport → AreNamed a (context_references was) → AreNamed b (context_references is)
  contexts-named tree new was is has has_new same_sid same_fs same_port same_netif same_node same_fsuse same_node6 same_ibpkey same_ibendport h =
      let sid = references_in sid_references was.sid in
      let fs = references_in named_references was.fs in
      let port = references_in port_references was.port in
      let netif = references_in named_references was.netif in
      let node = references_in (address_references 4) was.node in
      let fsuse = references_in fsuse_references was.fsuse in
      let node6 = references_in (address_references 16) was.node6 in
      let ibpkey = references_in ibpkey_references was.ibpkey in
      let ibendport = references_in ibendport_references was.ibendport in
      let eight = front-named a (sid ++ fs ++ port ++ netif ++ node ++ fsuse ++ node6 ++ ibpkey) ibendport h in
      let seven = front-named a (sid ++ fs ++ port ++ netif ++ node ++ fsuse ++ node6) ibpkey eight in
      let six = front-named a (sid ++ fs ++ port ++ netif ++ node ++ fsuse) node6 seven in
      let five = front-named a (sid ++ fs ++ port ++ netif ++ node) fsuse six in
      let four = front-named a (sid ++ fs ++ port ++ netif) node five in
      let three = front-named a (sid ++ fs ++ port) netif four in
      let two = front-named a (sid ++ fs) port three in
      kept sid_references sid-placeless was.sid is.sid (has.sid ∙ same_sid) has_new.sid (front-named a sid fs two)
      ⊕ kept named_references named-placeless was.fs is.fs (has.fs ∙ same_fs) has_new.fs (back-named a sid fs two)
      ⊕ kept port_references port-placeless was.port is.port (has.port ∙ same_port) has_new.port (back-named a (sid ++ fs) port three)
      ⊕ kept named_references named-placeless was.netif is.netif (has.netif ∙ same_netif) has_new.netif (back-named a (sid ++ fs ++ port) netif four)
      ⊕ kept (address_references 4) (address-placeless 4) was.node is.node (has.node ∙ same_node) has_new.node (back-named a (sid ++ fs ++ port ++ netif) node five)
      ⊕ kept fsuse_references fsuse-placeless was.fsuse is.fsuse (has.fsuse ∙ same_fsuse) has_new.fsuse (back-named a (sid ++ fs ++ port ++ netif ++ node) fsuse six)
      ⊕ kept (address_references 16) (address-placeless 16) was.node6 is.node6 (has.node6 ∙ same_node6) has_new.node6 (back-named a (sid ++ fs ++ port ++ netif ++ node ++ fsuse) node6 seven)
      ⊕ kept ibpkey_references ibpkey-placeless was.ibpkey is.ibpkey (has.ibpkey ∙ same_ibpkey) has_new.ibpkey (back-named a (sid ++ fs ++ port ++ netif ++ node ++ fsuse ++ node6) ibpkey eight)
      ⊕ kept ibendport_references ibendport-placeless was.ibendport is.ibendport (has.ibendport ∙ same_ibendport) has_new.ibendport (back-named a (sid ++ fs ++ port ++ netif ++ node ++ fsuse ++ node6 ++ ibpkey) ibendport h)

  labels-named : (tree : Tree) (version : ℕ) (entries : List NameTransRec) (groups : List NameGroupRec) (was is : LabelLists) → HasLabels tree was → HasLabels (moved_tree version tree entries groups) is → AreNamed a (label_references was) → AreNamed b (label_references is)
  labels-named tree version entries groups was is has has_new h =
      let contexts = context_references was.contexts in
      let genfs = references_in genfs_references was.genfs in
      let range = references_in range_trans_references was.range_trans in
      let two = front-named a (contexts ++ genfs) range h in
      contexts-named tree (moved_tree version tree entries groups) was.contexts is.contexts has.contexts has_new.contexts refl refl refl refl refl refl refl refl refl (front-named a contexts genfs two)
      ⊕ kept genfs_references genfs-placeless was.genfs is.genfs has.genfs has_new.genfs (back-named a contexts genfs two)
      ⊕ kept range_trans_references range_trans-placeless was.range_trans is.range_trans has.rangetrans has_new.rangetrans (back-named a (contexts ++ genfs) range h)

  -- ---- the file-name transitions

  entry-kept : (entry : NameTransRec) → NamedEntry a entry → NamedEntry b entry
  entry-kept entry h = record {
    source = sym (same Types entry.source) ∙ h.source;
    target = sym (same Types entry.target) ∙ h.target;
    class = sym (same Classes entry.class) ∙ h.class;
    default = sym (same Types entry.default) ∙ h.default;
  }

  group-kept : (group : NameGroupRec) → NamedGroup a group → NamedGroup b group
  group-kept group h = record {
    target = sym (same Types group.target) ∙ h.target;
    class = sym (same Classes group.class) ∙ h.class;
    datums = all-so group.datums (λ datum h. sym (same Types datum.default) ∙ h) h.datums;
  }

-- ---- all of them

-- what each part of a policy is read as
pub record HasParts (tree : Tree) (policy : Parts) : Type 0 where
  pub symbols : HasSymbols tree policy.symbols
  pub rules : HasRules tree policy.rules
  pub labels : HasLabels tree policy.labels

-- the parts of its references, each of which is declared
pub record PartsNamed (policy : Parts) : Type 0 where
  pub symbols : SymbolsNamed (name_in policy.symbols) policy.symbols
  pub rules : AreNamed (name_in policy.symbols) (rule_references policy.rules)
  pub names : AreNamed (name_in policy.symbols) (name_transition_references policy.rules.name_trans)
  pub labels : AreNamed (name_in policy.symbols) (label_references policy.labels)

pub parts-named : (policy : Parts) → undeclared policy ≡ None → PartsNamed policy
parts-named policy none =
    let named = name_in policy.symbols in
    let rules = policy.rules in
    let all = dangling-named named (policy_references policy) none in
    let two = front-named named (symbol_references policy.symbols ++ rule_references rules) (label_references policy.labels) all in
    let rules_named = back-named named (symbol_references policy.symbols) (rule_references rules) two in
    record {
      symbols = symbols-split named policy.symbols (front-named named (symbol_references policy.symbols) (rule_references rules) two);
      rules = rules_named;
      names = back-named named (references_in av_references rules.table ++ references_in condnode_references rules.conditionals ++ references_in role_trans_references rules.role_trans ++ references_in role_allow_references rules.role_allows)
          (name_transition_references rules.name_trans) rules_named;
      labels = back-named named (symbol_references policy.symbols ++ rule_references rules) (label_references policy.labels) all;
    }

module _ (tree : Tree) (version : ℕ) (entries : List NameTransRec) (groups : List NameGroupRec) where
  abbrev new : Tree
  new = moved_tree version tree entries groups

  pub declared-kept : (was is : Parts) → HasParts tree was → HasParts new is → PartsNamed was → AllByRecursion (NamedEntry (name_in was.symbols)) entries → AllByRecursion (NamedGroup (name_in was.symbols)) groups → undeclared is ≡ None
  declared-kept was is has has_new named each each_group =
      let a = name_in was.symbols in
      let b = name_in is.symbols in
      let kept_symbols : AreKept tree version entries groups was.symbols is.symbols = record { old = has.symbols; new = has_new.symbols } in
      let same = same-named tree version entries groups was.symbols is.symbols kept_symbols in
      let names = names-to b new is.rules.name_trans has_new.rules.names (all-so entries (entry-kept a b same) each) (all-so groups (group-kept a b same) each_group) in
      none-dangling b (policy_references is)
      (symbols-named tree version entries groups was.symbols is.symbols kept_symbols named.symbols
      ⊕ rules-named a b same tree new was.rules is.rules has.rules has_new.rules refl refl refl refl named.rules names
      ⊕ labels-named a b same tree version entries groups was.labels is.labels has.labels has_new.labels named.labels)
