-- What stands behind the rules of a policy that was read is read at a version that has room for it.
use Rattle.std.proofs.Common.{◌≡◌, ℕ, Bool, true, false, Some, List, [], ◌++◌, length, refl, sym, subst, append_assoc, arith}
use Rattle.std.specs.List.{flat_map, AllByRecursion}
use Rattle.std.proofs.lemmas.List.{append-nil}
use Rattle.pol_fields.specs.declared.Field.{Field}
use Rattle.pol_fields.specs.declared.fields.TheConstants.{SID_COUNT, FS_COUNT, FS_LEN, FS_NAME, PORT_COUNT, NETIF_COUNT, NETIF_LEN, NETIF_NAME, NODE_COUNT, NODE_ADDRESS, NODE_MASK, FSUSE_COUNT, NODE6_COUNT, NODE6_ADDRESS, NODE6_MASK, IBPKEY_COUNT, IBENDPORT_COUNT, GENFS_COUNT, RANGETRANS_COUNT}
use Rattle.pol_cursor.specs.Outcome.{Reader}
use Rattle.pol_cursor.specs.Parts.{list_of, records_at, counted, spell_counted, CountedFits}
use Rattle.pol_cursor.specs.References.{Placed, placed, values_of}
use Rattle.pol_cursor.specs.Contexts.{records_after}
use Rattle.pol_cursor.specs.Laws.{Again, IsReadAgain}
use Rattle.pol_cursor.proofs.Laws.{Again-list_of}
use Rattle.pol_cursor.proofs.ContextLists.{records_after_unplaced}
use Rattle.pol_bitmap.specs.declared.Node.{Node}
use Rattle.pol_bitmap.specs.Bitmap.{bitmap_at, spell_bitmap, BitmapFits}
use Rattle.pol_bitmap.proofs.Laws.{bitmap_again}
use Rattle.pol_trans.specs.declared.NameTransRec.{NameTransRec}
use Rattle.pol_trans.specs.declared.NameGroupRec.{NameGroupRec}
use Rattle.pol_trans.specs.RangeTransRecord.{range_trans_at, spell_range_trans, RangeTransFits}
use Rattle.pol_trans.proofs.TransLaws.{range_trans_again}
use Rattle.pol_contexts.specs.declared.Contexts.{Contexts}
use Rattle.pol_contexts.specs.SidRecord.{sid_at, spell_sid, SidFits}
use Rattle.pol_contexts.specs.NamedRecord.{named_at, spell_named, NamedFits}
use Rattle.pol_contexts.specs.PortRecord.{port_at, spell_port, PortFits}
use Rattle.pol_contexts.specs.AddressRecord.{address_at, spell_address, AddressFits}
use Rattle.pol_contexts.specs.FsUseRecord.{fsuse_at, spell_fsuse, FsUseFits}
use Rattle.pol_contexts.specs.IbPkeyRecord.{ibpkey_at, spell_ibpkey, IbPkeyFits}
use Rattle.pol_contexts.specs.IbEndPortRecord.{ibendport_at, spell_ibendport, IbEndPortFits}
use Rattle.pol_contexts.specs.ContextTables.{table_if, has_infiniband, contexts_at}
use Rattle.pol_contexts.proofs.ContextLaws.{sid_again, named_again, port_again, address_again, fsuse_again, ibpkey_again, ibendport_again}
use Rattle.pol_genfs.specs.GenfsRecord.{genfs_at, spell_genfs, GenfsFits}
use Rattle.pol_genfs.proofs.GenfsLaws.{genfs_again}
use Rattle.pol_file.specs.TypeRows.{type_rows_at}
use Rattle.pol_file.specs.declared.LabelLists.{LabelLists}
use Rattle.pol_file.specs.PolicyParts.{label_lists_at}
use Rattle.pol_tree.specs.declared.Tree.{Tree}
use Rattle.pol_tree.specs.TreeRanges.{TreeFits}
use Rattle.pol_tree.specs.TreeSpelling.{spell_if, spell_contexts, spell_labels}
use Rattle.pol_write.proofs.Findings.{FindsAgain, finds-part, finds-done, finds-as}
use Rattle.pol_write.proofs.ListFindings.{spelled-if}
use Rattle.pol_write.proofs.PartLaws.{sid-laws, named-laws, port-laws, address-laws, fsuse-laws, ibpkey-laws, ibendport-laws, genfs-laws, rangetrans-laws, typemap-laws}
use Rattle.pol_write.proofs.FoundParts.{HasContexts, HasLabels, HasNoInfiniband, fits-if}
use Rattle.pol_moved.proofs.Granted.{Grants, grants-part, grants-done, grants-as, grants-records, grants-counted}
use Rattle.pol_moved.proofs.Moves.{Moves, moves-list_of}
use Rattle.pol_moved.proofs.MovesSymbols.{moves-bitmap}
use Rattle.pol_moved.proofs.MovesRules.{moves-sid, moves-named, moves-port, moves-address, moves-fsuse, moves-ibpkey, moves-ibendport, moves-genfs, moves-range_trans}
use Rattle.pol_moved.proofs.Stood.{Stood, stood-as, stood-last}
use Rattle.pol_moved.proofs.Stood.{stood-found}
use Rattle.pol_sound.proofs.Kept.{kept-through, list-kept, list-granted}
use Rattle.pol_sound.proofs.MovedTree.{moved_tree}

-- ---- the tables of InfiniBand

-- a table that is in the file or is empty, at both versions
list_if-kept : {A : Type 0} (was is : Bool) (d : Field) (record_at : Reader A) (spell : A → List ℕ) (fits : A → Type 0) → IsReadAgain record_at spell fits → Moves record_at → (xs : List A) → CountedFits fits xs → (was ≡ false → xs ≡ []) → (is ≡ false → xs ≡ [])
    → {records : List (Placed A)} → values_of records ≡ xs → Stood (table_if was (counted d (records_at (placed record_at)))) records (spell_if was (spell_counted spell xs))
    → Grants (table_if is (counted d (records_at (placed record_at)))) (λ records. values_of records ≡ xs) (spell_if is (spell_counted spell xs))
unfolding table_if
list_if-kept {A} was false d record_at spell fits again moves xs xs-fit none none_new are stood = grants-done [] (sym (none_new refl))
list_if-kept {A} true true d record_at spell fits again moves xs xs-fit none none_new {records} are stood = list-kept d record_at spell fits again moves xs xs-fit records are stood
list_if-kept {A} false true d record_at spell fits again moves xs xs-fit none none_new are stood =
    let nothing = list-granted d record_at spell [] (grants-counted d (records_at record_at) spell [] (omega arith) (grants-records record_at spell (λ x. ⊥) (λ x never. absurd never) [] tt)) in
    subst (λ (ys : List A). Grants (counted d (records_at (placed record_at))) (λ records. values_of records ≡ ys) (spell_counted spell ys)) (sym (none refl)) nothing

-- ---- the tables of contexts

module _ (tree : Tree) where
  abbrev was : Bool
  was = has_infiniband tree.version

  abbrev behind_ibpkey : List ℕ
  behind_ibpkey = spell_if was (spell_counted spell_ibendport tree.ibendport)

  abbrev behind_node6 : List ℕ
  behind_node6 = spell_if was (spell_counted spell_ibpkey tree.ibpkey) ++ behind_ibpkey

  abbrev behind_fsuse : List ℕ
  behind_fsuse = spell_counted spell_address tree.node6 ++ behind_node6

  abbrev behind_node : List ℕ
  behind_node = spell_counted spell_fsuse tree.fsuse ++ behind_fsuse

  abbrev behind_netif : List ℕ
  behind_netif = spell_counted spell_address tree.node ++ behind_node

  abbrev behind_port : List ℕ
  behind_port = spell_counted spell_named tree.netif ++ behind_netif

  abbrev behind_fs : List ℕ
  behind_fs = spell_counted spell_port tree.port ++ behind_port

  abbrev behind_sid : List ℕ
  behind_sid = spell_counted spell_named tree.fs ++ behind_fs

  abbrev contexts_text : List ℕ
  contexts_text = spell_counted spell_sid tree.sid ++ behind_sid

  contexts-spelled : spell_contexts tree ≡ contexts_text
  unfolding spell_contexts
  contexts-spelled = rw (← spelled-if was (spell_counted spell_ibpkey tree.ibpkey) (spell_counted spell_ibendport tree.ibendport)) (simp append_assoc)

  contexts-there : TreeFits tree → HasNoInfiniband tree → FindsAgain (contexts_at tree.version) (λ contexts. Unit {0}) contexts_text
  unfolding contexts_at
  contexts-there fits none =
      finds-as
      (finds-part _ (sid-laws.again tree.sid fits.sid) λ sid is_sid.
      finds-part _ ((named-laws FS_COUNT FS_LEN FS_NAME).again tree.fs fits.fs) λ fs is_fs.
      finds-part _ (port-laws.again tree.port fits.port) λ port is_port.
      finds-part _ ((named-laws NETIF_COUNT NETIF_LEN NETIF_NAME).again tree.netif fits.netif) λ netif is_netif.
      finds-part _ ((address-laws NODE_COUNT NODE_ADDRESS NODE_MASK 4).again tree.node fits.node) λ node is_node.
      finds-part _ (fsuse-laws.again tree.fsuse fits.fsuse) λ fsuse is_fsuse.
      finds-part _ ((address-laws NODE6_COUNT NODE6_ADDRESS NODE6_MASK 16).again tree.node6 fits.node6) λ node6 is_node6.
      finds-part _ ((ibpkey-laws was).again tree.ibpkey (fits-if was _ tree.ibpkey fits.ibpkey none.ibpkey)) λ ibpkey is_ibpkey.
      finds-part _ ((ibendport-laws was).again tree.ibendport (fits-if was _ tree.ibendport fits.ibendport none.ibendport)) λ ibendport is_ibendport.
      finds-done _ tt)
      (simp (append_assoc, append-nil))

module _ (tree : Tree) (version : ℕ) (entries : List NameTransRec) (groups : List NameGroupRec) (fits : TreeFits tree) (none : HasNoInfiniband tree) where
  abbrev new : Tree
  new = moved_tree version tree entries groups

  contexts-kept : HasNoInfiniband new → (contexts : Contexts) → Stood (contexts_at tree.version) contexts (contexts_text tree) → Grants (contexts_at version) (HasContexts new) (contexts_text new)
  unfolding contexts_at
  contexts-kept none_new contexts stood =
      let sid = stood-found _ (behind_sid tree) (sid-laws.again tree.sid fits.sid) stood in
      let fs = stood-found _ (behind_fs tree) ((named-laws FS_COUNT FS_LEN FS_NAME).again tree.fs fits.fs) sid.others in
      let port = stood-found _ (behind_port tree) (port-laws.again tree.port fits.port) fs.others in
      let netif = stood-found _ (behind_netif tree) ((named-laws NETIF_COUNT NETIF_LEN NETIF_NAME).again tree.netif fits.netif) port.others in
      let node = stood-found _ (behind_node tree) ((address-laws NODE_COUNT NODE_ADDRESS NODE_MASK 4).again tree.node fits.node) netif.others in
      let fsuse = stood-found _ (behind_fsuse tree) (fsuse-laws.again tree.fsuse fits.fsuse) node.others in
      let node6 = stood-found _ (behind_node6 tree) ((address-laws NODE6_COUNT NODE6_ADDRESS NODE6_MASK 16).again tree.node6 fits.node6) fsuse.others in
      let ibpkey = stood-found _ (behind_ibpkey tree) ((ibpkey-laws (was tree)).again tree.ibpkey (fits-if (was tree) _ tree.ibpkey fits.ibpkey none.ibpkey)) node6.others in
      let ibendport = stood-found _ [] ((ibendport-laws (was tree)).again tree.ibendport (fits-if (was tree) _ tree.ibendport fits.ibendport none.ibendport)) (stood-last ibpkey.others) in
      grants-as
      (grants-part _ (list-kept SID_COUNT sid_at spell_sid SidFits sid_again moves-sid tree.sid fits.sid sid.value sid.is sid.first) λ new_sid is_sid.
      grants-part _ (list-kept FS_COUNT (named_at FS_LEN FS_NAME) spell_named NamedFits (named_again FS_LEN FS_NAME) (moves-named FS_LEN FS_NAME) tree.fs fits.fs fs.value fs.is fs.first) λ new_fs is_fs.
      grants-part _ (list-kept PORT_COUNT port_at spell_port PortFits port_again moves-port tree.port fits.port port.value port.is port.first) λ new_port is_port.
      grants-part _ (list-kept NETIF_COUNT (named_at NETIF_LEN NETIF_NAME) spell_named NamedFits (named_again NETIF_LEN NETIF_NAME) (moves-named NETIF_LEN NETIF_NAME) tree.netif fits.netif netif.value netif.is netif.first) λ new_netif is_netif.
      grants-part _ (list-kept NODE_COUNT (address_at NODE_ADDRESS NODE_MASK 4) (spell_address {width = 4}) (AddressFits 4) (address_again NODE_ADDRESS NODE_MASK 4) (moves-address NODE_ADDRESS NODE_MASK 4) tree.node fits.node node.value node.is node.first) λ new_node is_node.
      grants-part _ (list-kept FSUSE_COUNT fsuse_at spell_fsuse FsUseFits fsuse_again moves-fsuse tree.fsuse fits.fsuse fsuse.value fsuse.is fsuse.first) λ new_fsuse is_fsuse.
      grants-part _ (list-kept NODE6_COUNT (address_at NODE6_ADDRESS NODE6_MASK 16) (spell_address {width = 16}) (AddressFits 16) (address_again NODE6_ADDRESS NODE6_MASK 16) (moves-address NODE6_ADDRESS NODE6_MASK 16) tree.node6 fits.node6 node6.value node6.is node6.first) λ new_node6 is_node6.
      grants-part _ (list_if-kept (was tree) (was new) IBPKEY_COUNT ibpkey_at spell_ibpkey IbPkeyFits ibpkey_again moves-ibpkey tree.ibpkey fits.ibpkey none.ibpkey none_new.ibpkey ibpkey.is ibpkey.first) λ new_ibpkey is_ibpkey.
      grants-part _ (list_if-kept (was tree) (was new) IBENDPORT_COUNT ibendport_at spell_ibendport IbEndPortFits ibendport_again moves-ibendport tree.ibendport fits.ibendport none.ibendport none_new.ibendport ibendport.is ibendport.first) λ new_ibendport is_ibendport.
      grants-done _ (record { sid = is_sid; fs = is_fs; port = is_port; netif = is_netif; node = is_node; fsuse = is_fsuse; node6 = is_node6; ibpkey = is_ibpkey; ibendport = is_ibendport }))
      (simp (append_assoc, append-nil))

-- ---- the rows of the type map

rows-kept : (types : ℕ) (xs : List (List Node)) → length xs ≡ types → AllByRecursion BitmapFits xs → {rows : List _} → values_of rows ≡ xs → Stood (type_rows_at types) rows (flat_map spell_bitmap xs)
    → Grants (type_rows_at types) (λ rows. values_of rows ≡ xs) (flat_map spell_bitmap xs)
unfolding type_rows_at
rows-kept types xs long fits are stood =
    let row_at : ℕ → Reader (List Node) = λ nprim. bitmap_at (Some nprim) in
    let after : ℕ → List Node → ℕ = λ nprim row. nprim in
    let again : Again (list_of (λ left context. row_at context) after (length xs) types) xs (flat_map spell_bitmap xs) = Again-list_of (λ left context. row_at context) after spell_bitmap BitmapFits (λ left context x f. bitmap_again (Some context) x f) xs types fits in
    let again_so_many = subst (λ (n : ℕ). Again (list_of (λ left context. row_at context) after n types) xs (flat_map spell_bitmap xs)) long again in
    kept-through (records_after row_at after types types) (list_of (λ left context. row_at context) after types types) (λ rows. values_of rows) (λ bytes place. records_after_unplaced row_at after types types bytes place)
    (moves-list_of (λ left context. row_at context) after (λ left context. moves-bitmap (Some context)) types types) again_so_many are stood

-- ---- all of it

module _ (tree : Tree) (version : ℕ) (entries : List NameTransRec) (groups : List NameGroupRec) (fits : TreeFits tree) (none : HasNoInfiniband tree) where
  abbrev moved : Tree
  moved = moved_tree version tree entries groups

  pub labels-kept : HasNoInfiniband moved → (types : ℕ) → length tree.typemap ≡ types → (labels : LabelLists) → Stood (label_lists_at tree.version types) labels (spell_labels tree) → Grants (label_lists_at version types) (HasLabels moved) (spell_labels moved)
  unfolding label_lists_at spell_labels
  labels-kept none_new types rows labels stood =
      let rows_text = flat_map spell_bitmap tree.typemap in
      let range_text = spell_counted spell_range_trans tree.rangetrans ++ rows_text in
      let genfs_text = spell_counted spell_genfs tree.genfs ++ range_text in
      let there = stood-as {t = contexts_text tree ++ genfs_text} stood (rw (contexts-spelled tree) (simp append_assoc)) in
      let contexts = stood-found _ genfs_text (contexts-there tree fits none) there in
      let genfs = stood-found _ range_text (genfs-laws.again tree.genfs fits.genfs) contexts.others in
      let range = stood-found _ rows_text (rangetrans-laws.again tree.rangetrans fits.rangetrans) genfs.others in
      let type_rows = stood-found _ [] ((typemap-laws types).again tree.typemap (rows, fits.typemap)) (stood-last range.others) in
      grants-as
      (grants-part _ (contexts-kept tree version entries groups fits none none_new contexts.value contexts.first) λ new_contexts has_contexts.
      grants-part _ (list-kept GENFS_COUNT genfs_at spell_genfs GenfsFits genfs_again moves-genfs tree.genfs fits.genfs genfs.value genfs.is genfs.first) λ new_genfs is_genfs.
      grants-part _ (list-kept RANGETRANS_COUNT range_trans_at spell_range_trans RangeTransFits range_trans_again moves-range_trans tree.rangetrans fits.rangetrans range.value range.is range.first) λ new_range is_rangetrans.
      grants-part _ (rows-kept types tree.typemap rows fits.typemap type_rows.is type_rows.first) λ new_rows is_typemap.
      grants-done _ (record { contexts = has_contexts; genfs = is_genfs; rangetrans = is_rangetrans; typemap = is_typemap }))
      (rw (contexts-spelled moved) (simp (append_assoc, append-nil)))
