-- What stands before the symbol tables of a policy that was read is read at another version.
use Rattle.std.proofs.Common.{◌≡◌, ℕ, None, List, [], ◌++◌, length, refl, append_assoc, arith}
use Rattle.std.proofs.lemmas.Bool.{and_from, le-leb}
use Rattle.std.proofs.lemmas.List.{append-nil}
use Rattle.pol_fields.specs.declared.fields.TheConstants.{HEADER_VERSION, HEADER_CONFIG}
use Rattle.pol_cursor.specs.Parts.{number_if}
use Rattle.pol_bitmap.specs.Bitmap.{spell_bitmap}
use Rattle.pol_bitmap.proofs.Laws.{bitmap_again}
use Rattle.pol_symtab.specs.Inner.Freshness.{Gives}
use Rattle.pol_symtab.proofs.FreshRecords.{Gives-part, Gives-done, Gives-number_if}
use Rattle.pol_file.specs.declared.Front.{Front}
use Rattle.pol_file.specs.HeaderRecord.{version_test, config_test, identity_at, counts_at, header_at, spell_header, HeaderFits}
use Rattle.pol_file.specs.PolicyParts.{front_at}
use Rattle.pol_file.proofs.HeaderLaws.{header_again}
use Rattle.pol_file.proofs.ReadValues.{gives-others}
use Rattle.pol_trans.specs.declared.NameTransRec.{NameTransRec}
use Rattle.pol_trans.specs.declared.NameGroupRec.{NameGroupRec}
use Rattle.pol_tree.specs.declared.Tree.{Tree}
use Rattle.pol_tree.specs.TreeRanges.{TreeFits}
use Rattle.pol_tree.specs.TreeSpelling.{header_of, spell_front}
use Rattle.pol_write.proofs.FoundParts.{HasFront}
use Rattle.pol_moved.proofs.Granted.{Grants, grants-done, grants-part, grants-as}
use Rattle.pol_moved.proofs.GrantedHeader.{header-granted}
use Rattle.pol_moved.proofs.MovesSymbols.{moves-bitmap}
use Rattle.pol_moved.proofs.Stood.{Stood, stood-as, stood-last, stood-part, grants-moved}
use Rattle.pol_sound.specs.Versions.{IsVersion}
use Rattle.pol_sound.proofs.MovedTree.{moved_tree}

version-right : (version : ℕ) → IsVersion version → version_test version ≡ None
version-right version is = rw (and_from _ _ (le-leb 28 version is.least) (le-leb version 34 is.most)) refl

-- the config of a header that was read
config-right : Gives header_at (λ header. config_test header.config ≡ None)
unfolding header_at
config-right =
    gives-others identity_at λ identified.
    gives-others (number_if HEADER_VERSION 4 version_test) λ version.
    Gives-part (Gives-number_if HEADER_CONFIG 4) λ config right.
    gives-others (counts_at version) λ counted.
    Gives-done _ (record { version = version; config = config }) right

module _ (tree : Tree) (version : ℕ) (entries : List NameTransRec) (groups : List NameGroupRec) (fits : TreeFits tree) (is : IsVersion version) where
  abbrev new : Tree
  new = moved_tree version tree entries groups

  pub front-kept : (front : Front) → Stood front_at front (spell_front tree) → Grants front_at (HasFront new) (spell_front new)
  unfolding front_at spell_front
  front-kept front stood =
      let bitmaps_text = spell_bitmap tree.capabilities ++ spell_bitmap tree.permissive in
      let there = stood-as {t = spell_header (header_of tree) ++ bitmaps_text} stood (simp append_assoc) in
      let header = stood-part _ bitmaps_text (header_again (header_of tree) fits.header) there in
      let capabilities = stood-part _ (spell_bitmap tree.permissive) (bitmap_again None tree.capabilities fits.capabilities) header.others in
      let permissive = stood-part _ [] (bitmap_again None tree.permissive fits.permissive) (stood-last capabilities.others) in
      let config : config_test tree.config ≡ None = config-right.each (header.first.before ++ (spell_header (header_of tree) ++ header.first.after)) (length header.first.before) (header_of tree) _ header.first.got in
      let header_fits : HeaderFits (header_of new) = record { version = omega (arith, is.most); config = fits.header.config } in
      grants-as
      (grants-part _ (header-granted (header_of new) header_fits (version-right version is) config) λ new_header is_header.
      grants-part _ (grants-moved (moves-bitmap None) (bitmap_again None tree.capabilities fits.capabilities) capabilities.first) λ new_capabilities are_capabilities.
      grants-part _ (grants-moved (moves-bitmap None) (bitmap_again None tree.permissive fits.permissive) permissive.first) λ new_permissive are_permissive.
      grants-done _ (record { header = is_header; capabilities = are_capabilities; permissive = are_permissive }))
      (simp (append_assoc, append-nil))
