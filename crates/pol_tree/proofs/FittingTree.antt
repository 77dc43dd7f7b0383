-- A tree fits where each of its lists does: what its shape and its length say of each of them.
use Rattle.std.proofs.Common.{◌≡◌, ℕ, ◌<◌, ◌^◌, Bool, true, false, not, Option, None, List, [], ◌∷◌, ◌++◌, length, refl, if◌then◌else◌, arith}
use Rattle.std.specs.List.{flat_map}
use Rattle.std.proofs.lemmas.List.{length-append}
use Rattle.pol_fields.specs.declared.Field.{Field}
use Rattle.pol_fields.specs.declared.field.Field.{Field}
use Rattle.pol_fields.specs.declared.fields.TheConstants.{NAMETRANS_COUNT, NAMEGROUP_COUNT, IBPKEY_COUNT, IBENDPORT_COUNT}
use Rattle.pol_cursor.specs.Parts.{spell_counted, CountedFits}
use Rattle.pol_symtab.specs.SymbolTables.{BareTable, TableFits}
use Rattle.pol_trans.specs.NameTransitions.{has_groups}
use Rattle.pol_contexts.specs.ContextTables.{has_infiniband}
use Rattle.pol_tree.specs.TreeSpelling.{spell_if}
use Rattle.pol_tree.specs.OptionalParts.{shape_of_list, first_in}
use Rattle.pol_tree.specs.RecordShapes.{shape_of_class, shape_of_user, shape_of_av, shape_of_condnode, shape_of_range_trans, shape_of_genfs, shape_of_sid, shape_of_named, shape_of_port, shape_of_address, shape_of_fsuse, shape_of_ibpkey, shape_of_ibendport}
use Rattle.pol_tree.specs.Inner.Fitting.{AreFitting}
use Rattle.pol_tree.proofs.Wrongs.{none_each}
use Rattle.pol_tree.specs.declared.tree.Tree.{Tree}
use Rattle.pol_tree.specs.TreeShape.{shape_of_symbols, shape_of_rules, shape_of_contexts, shape_of_labels, shape}

-- a symbol table
pub table_fits : {A : Type 0} {fits : A → Type 0} (table : BareTable A) → table.nprim < 2 ^ 32 → CountedFits fits table.records → TableFits fits table
table_fits table nprim list = record { nprim = nprim; nel = list.count; records = list.items }

-- a list that is in the file or is empty
pub list_fits_if : {A : Type 0} {shape : A → Option Field} {fits : A → Type 0} {spell : A → List ℕ} (there : Bool) (xs : List A) (field : Field) → AreFitting shape fits spell xs → shape_of_list there xs field ≡ None → first_in shape xs ≡ None
    → (there ≡ true → length (flat_map spell xs) < 2 ^ 32) → CountedFits fits xs
list_fits_if true xs field are here right few = are.fitting right (few refl)
list_fits_if false [] field are here right few = record { count = omega arith; items = tt }
list_fits_if false (x ∷ xs) field are here right few = absurd cc

-- ---- the optional parts of each list

-- none of them is wrong
pub record Rights (tree : Tree) : Type 0 where
  pub classes : first_in (shape_of_class tree.version) tree.classes ≡ None
  pub users : first_in shape_of_user tree.users ≡ None
  pub avtab : first_in shape_of_av tree.avtab ≡ None
  pub condlist : first_in shape_of_condnode tree.condlist ≡ None
  pub nametrans : shape_of_list (not (has_groups tree.version)) tree.nametrans NAMETRANS_COUNT ≡ None
  pub namegroup : shape_of_list (has_groups tree.version) tree.namegroup NAMEGROUP_COUNT ≡ None
  pub sid : first_in shape_of_sid tree.sid ≡ None
  pub fs : first_in shape_of_named tree.fs ≡ None
  pub port : first_in shape_of_port tree.port ≡ None
  pub netif : first_in shape_of_named tree.netif ≡ None
  pub node : first_in shape_of_address tree.node ≡ None
  pub fsuse : first_in shape_of_fsuse tree.fsuse ≡ None
  pub node6 : first_in shape_of_address tree.node6 ≡ None
  pub ibpkey_there : shape_of_list (has_infiniband tree.version) tree.ibpkey IBPKEY_COUNT ≡ None
  pub ibpkey : first_in shape_of_ibpkey tree.ibpkey ≡ None
  pub ibendport_there : shape_of_list (has_infiniband tree.version) tree.ibendport IBENDPORT_COUNT ≡ None
  pub ibendport : first_in shape_of_ibendport tree.ibendport ≡ None
  pub genfs : first_in shape_of_genfs tree.genfs ≡ None
  pub rangetrans : first_in shape_of_range_trans tree.rangetrans ≡ None

pub each_right : (tree : Tree) → shape tree ≡ None → Rights tree
unfolding shape_of_symbols shape_of_rules shape_of_contexts shape_of_labels shape
each_right tree right =
    let symbols = none_each _ _ right in
    let rules = none_each _ _ symbols.1 in
    let labels = none_each _ _ rules.1 in
    let classes = none_each _ _ symbols.0 in
    let users = none_each _ _ classes.1 in
    let avtab = none_each _ _ rules.0 in
    let condlist = none_each _ _ avtab.1 in
    let nametrans = none_each _ _ condlist.1 in
    let namegroup = none_each _ _ nametrans.1 in
    let contexts = none_each _ _ labels.0 in
    let genfs = none_each _ _ contexts.1 in
    let rangetrans = none_each _ _ genfs.1 in
    let sid = none_each _ _ contexts.0 in
    let fs = none_each _ _ sid.1 in
    let port = none_each _ _ fs.1 in
    let netif = none_each _ _ port.1 in
    let node = none_each _ _ netif.1 in
    let fsuse = none_each _ _ node.1 in
    let node6 = none_each _ _ fsuse.1 in
    let ibpkey_there = none_each _ _ node6.1 in
    let ibpkey = none_each _ _ ibpkey_there.1 in
    let ibendport_there = none_each _ _ ibpkey.1 in
    let ibendport = none_each _ _ ibendport_there.1 in
    record {
      classes = classes.0;
      users = users.0;
      avtab = avtab.0;
      condlist = condlist.0;
      nametrans = nametrans.0;
      namegroup = namegroup.0;
      sid = sid.0;
      fs = fs.0;
      port = port.0;
      netif = netif.0;
      node = node.0;
      fsuse = fsuse.0;
      node6 = node6.0;
      ibpkey_there = ibpkey_there.0;
      ibpkey = ibpkey.0;
      ibendport_there = ibendport_there.0;
      ibendport = ibendport.0;
      genfs = genfs.0;
      rangetrans = rangetrans.0;
    }

-- ---- the bytes of a list, where it is in the file

-- in place of another text
pub few_if : {A : Type 0} (spell : A → List ℕ) (there : Bool) (xs : List A) (text : List ℕ) → length (if there then spell_counted spell xs else text) < 2 ^ 32 → there ≡ true → length (flat_map spell xs) < 2 ^ 32
few_if spell true xs text few e = let each = simp length-append at few in omega (arith, each)
few_if spell false xs text few e = absurd cc

-- a list is in the file where the other text is not
pub few_unless : {A : Type 0} (spell : A → List ℕ) (there : Bool) (xs : List A) (text : List ℕ) → length (if there then text else spell_counted spell xs) < 2 ^ 32 → not there ≡ true → length (flat_map spell xs) < 2 ^ 32
few_unless spell true xs text few e = absurd cc
few_unless spell false xs text few e = let each = simp length-append at few in omega (arith, each)

-- the first of two lists that are there together, and the second
pub few_first : {A B : Type 0} (spell : A → List ℕ) (others : B → List ℕ) (there : Bool) (xs : List A) (ys : List B) → length (spell_if there (spell_counted spell xs ++ spell_counted others ys)) < 2 ^ 32 → there ≡ true → length (flat_map spell xs) < 2 ^ 32
few_first spell others true xs ys few e = let each = simp length-append at few in omega (arith, each)
few_first spell others false xs ys few e = absurd cc

pub few_second : {A B : Type 0} (others : A → List ℕ) (spell : B → List ℕ) (there : Bool) (ys : List A) (xs : List B) → length (spell_if there (spell_counted others ys ++ spell_counted spell xs)) < 2 ^ 32 → there ≡ true → length (flat_map spell xs) < 2 ^ 32
few_second others spell true ys xs few e = let each = simp length-append at few in omega (arith, each)
few_second others spell false ys xs few e = absurd cc
