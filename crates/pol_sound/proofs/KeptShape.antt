-- No part of a tree is wrong at another version.
use Rattle.std.proofs.Common.{◌≡◌, ℕ, Bool, true, false, Some, None, List, [], ◌∷◌, length, refl}
use Rattle.std.specs.Prelude.{◌==◌, not, slice_index}
use Rattle.std.proofs.lemmas.Bool.{cases_Bool, eqb-true}
use Rattle.std.proofs.Common.{inl, inr}
use Rattle.pol_fields.specs.declared.Field.{Field}
use Rattle.pol_fields.specs.declared.fields.TheConstants.{BITMAP_UNIT, NAMETRANS_COUNT, NAMEGROUP_COUNT, IBPKEY_COUNT, IBENDPORT_COUNT}
use Rattle.pol_trans.specs.declared.NameTransRec.{NameTransRec}
use Rattle.pol_trans.specs.declared.NameGroupRec.{NameGroupRec}
use Rattle.pol_trans.specs.NameTransitions.{has_groups}
use Rattle.pol_contexts.specs.ContextTables.{has_infiniband}
use Rattle.pol_tree.specs.declared.Tree.{Tree}
use Rattle.pol_tree.specs.TreeRanges.{TreeFits}
use Rattle.pol_tree.specs.OptionalParts.{wrong_if, shape_of_list, first_in}
use Rattle.pol_tree.specs.RecordShapes.{shape_of_class, shape_of_user, shape_of_av, shape_of_condnode, shape_of_range_trans, shape_of_genfs, shape_of_sid, shape_of_named, shape_of_port, shape_of_address, shape_of_fsuse, shape_of_ibpkey, shape_of_ibendport}
use Rattle.pol_tree.specs.TreeShape.{shape_of_symbols, shape_of_rules, shape_of_contexts, shape_of_labels, shape}
use Rattle.pol_tree.proofs.Wrongs.{none_each, none-first, none-last}
use Rattle.pol_moved.proofs.ListFacts.{all-so}
use Rattle.pol_sound.proofs.MovedTree.{moved_tree}
use Rattle.pol_moved.proofs.GrantedPolicy.{none-in}
use Rattle.pol_sound.proofs.KeptFits.{class-shaped}

-- ---- the parts of a tree of which none is wrong

pub record ShapedContexts (tree : Tree) : Type 0 where
  pub sid : first_in shape_of_sid tree.sid ≡ None
  pub fs : first_in shape_of_named tree.fs ≡ None
  pub port : first_in shape_of_port tree.port ≡ None
  pub netif : first_in shape_of_named tree.netif ≡ None
  pub node : first_in shape_of_address tree.node ≡ None
  pub fsuse : first_in shape_of_fsuse tree.fsuse ≡ None
  pub node6 : first_in shape_of_address tree.node6 ≡ None
  pub has_ibpkey : shape_of_list (has_infiniband tree.version) tree.ibpkey IBPKEY_COUNT ≡ None
  pub ibpkey : first_in shape_of_ibpkey tree.ibpkey ≡ None
  pub has_ibendport : shape_of_list (has_infiniband tree.version) tree.ibendport IBENDPORT_COUNT ≡ None
  pub ibendport : first_in shape_of_ibendport tree.ibendport ≡ None

pub record ShapedParts (tree : Tree) : Type 0 where
  pub users : first_in shape_of_user tree.users ≡ None
  pub avtab : first_in shape_of_av tree.avtab ≡ None
  pub condlist : first_in shape_of_condnode tree.condlist ≡ None
  pub nametrans : shape_of_list (not (has_groups tree.version)) tree.nametrans NAMETRANS_COUNT ≡ None
  pub namegroup : shape_of_list (has_groups tree.version) tree.namegroup NAMEGROUP_COUNT ≡ None
  pub contexts : ShapedContexts tree
  pub genfs : first_in shape_of_genfs tree.genfs ≡ None
  pub rangetrans : first_in shape_of_range_trans tree.rangetrans ≡ None
  pub rows : wrong_if (not (length tree.typemap == slice_index tree.nprims 3)) BITMAP_UNIT ≡ None

shaped-contexts : (tree : Tree) → shape_of_contexts tree ≡ None → ShapedContexts tree
unfolding shape_of_contexts
shaped-contexts tree e =
    let sid = none_each _ _ e in
    let fs = none_each _ _ sid.1 in
    let port = none_each _ _ fs.1 in
    let netif = none_each _ _ port.1 in
    let node = none_each _ _ netif.1 in
    let fsuse = none_each _ _ node.1 in
    let node6 = none_each _ _ fsuse.1 in
    let has_ibpkey = none_each _ _ node6.1 in
    let ibpkey = none_each _ _ has_ibpkey.1 in
    let has_ibendport = none_each _ _ ibpkey.1 in
    let ibendport = none_each _ _ has_ibendport.1 in
    record {
      sid = sid.0;
      fs = fs.0;
      port = port.0;
      netif = netif.0;
      node = node.0;
      fsuse = fsuse.0;
      node6 = node6.0;
      has_ibpkey = has_ibpkey.0;
      ibpkey = ibpkey.0;
      has_ibendport = has_ibendport.0;
      ibendport = ibendport.0;
    }

pub shaped-parts : (tree : Tree) → shape tree ≡ None → ShapedParts tree
unfolding shape shape_of_symbols shape_of_rules shape_of_labels
shaped-parts tree e =
    let symbols = none_each _ _ e in
    let rules = none_each _ _ symbols.1 in
    let labels = none_each _ _ (none_each _ _ rules.1).0 in
    let users = none_each _ _ (none_each _ _ symbols.0).1 in
    let avtab = none_each _ _ rules.0 in
    let condlist = none_each _ _ avtab.1 in
    let nametrans = none_each _ _ condlist.1 in
    let namegroup = none_each _ _ nametrans.1 in
    let genfs = none_each _ _ labels.1 in
    let rangetrans = none_each _ _ genfs.1 in
    record {
      users = users.0;
      avtab = avtab.0;
      condlist = condlist.0;
      nametrans = nametrans.0;
      namegroup = namegroup.0;
      contexts = shaped-contexts tree labels.0;
      genfs = genfs.0;
      rangetrans = rangetrans.0;
      rows = (none_each _ _ rangetrans.1).0;
    }

-- ---- what they say of lists

-- a list that is empty where it is not in the file
pub list-shaped : {A : Type 0} (there : Bool) (xs : List A) (d : Field) → (there ≡ false → xs ≡ []) → shape_of_list there xs d ≡ None
list-shaped there [] d none = refl
list-shaped true (x ∷ xs) d none = refl
list-shaped false (x ∷ xs) d none = absurd (let e = none refl in cc)

pub rows-same : (m n : ℕ) (d : Field) → wrong_if (not (m == n)) d ≡ None → m ≡ n
rows-same m n d e = elim (cases_Bool (m == n)) [
  | inl same ↦ eqb-true m n same
  | inr other ↦ absurd (let wrong : wrong_if (not (m == n)) d ≡ Some d = rw other refl in cc)
]

-- ---- at the other version

module _ (tree : Tree) (version : ℕ) (entries : List NameTransRec) (groups : List NameGroupRec) where
  abbrev new : Tree
  new = moved_tree version tree entries groups

  contexts-shaped : ShapedContexts tree → (has_infiniband version ≡ false → tree.ibpkey ≡ []) → (has_infiniband version ≡ false → tree.ibendport ≡ []) → shape_of_contexts new ≡ None
  unfolding shape_of_contexts
  contexts-shaped h ibpkey ibendport =
      none-first _ _ h.sid
      (none-first _ _ h.fs
      (none-first _ _ h.port
      (none-first _ _ h.netif
      (none-first _ _ h.node
      (none-first _ _ h.fsuse
      (none-first _ _ h.node6
      (none-first _ _ (list-shaped (has_infiniband version) tree.ibpkey IBPKEY_COUNT ibpkey)
      (none-first _ _ h.ibpkey
      (none-first _ _ (list-shaped (has_infiniband version) tree.ibendport IBENDPORT_COUNT ibendport)
      (none-first _ _ h.ibendport none-last))))))))))

  pub tree-shaped : TreeFits new → ShapedParts tree → shape_of_list (not (has_groups version)) entries NAMETRANS_COUNT ≡ None → shape_of_list (has_groups version) groups NAMEGROUP_COUNT ≡ None
      → (has_infiniband version ≡ false → tree.ibpkey ≡ []) → (has_infiniband version ≡ false → tree.ibendport ≡ []) → shape new ≡ None
  unfolding shape shape_of_symbols shape_of_rules shape_of_labels
  tree-shaped fits h nametrans namegroup ibpkey ibendport =
      let classes = none-in (shape_of_class version) new.classes (all-so new.classes (class-shaped version) fits.classes.records) in
      let symbols = none-first _ _ classes (none-first _ _ h.users none-last) in
      let rules = none-first _ _ h.avtab (none-first _ _ h.condlist (none-first _ _ nametrans (none-first _ _ namegroup none-last))) in
      let labels = none-first _ _ (contexts-shaped h.contexts ibpkey ibendport) (none-first _ _ h.genfs (none-first _ _ h.rangetrans (none-first _ _ h.rows none-last))) in
      none-first _ _ symbols (none-first _ _ rules (none-first _ _ labels none-last))
