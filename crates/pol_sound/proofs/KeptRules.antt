-- The rules of a policy that was read are read at a version that has room for them.
use Rattle.std.proofs.Common.{◌≡◌, ℕ, List, ◌++◌, subst, append_assoc}
use Rattle.std.specs.List.{AllByRecursion}
use Rattle.std.proofs.lemmas.List.{append-nil}
use Rattle.pol_fields.specs.declared.fields.TheConstants.{ROLETRANS_COUNT, ROLEALLOW_COUNT}
use Rattle.pol_cursor.specs.Outcome.{Reader}
use Rattle.pol_cursor.specs.Parts.{records_at, counted, spell_counted, CountedFits}
use Rattle.pol_cursor.specs.References.{placed, values_of}
use Rattle.pol_avtab.specs.declared.AvRec.{AvRec}
use Rattle.pol_avtab.specs.AvRecord.{spell_av, AvFits}
use Rattle.pol_avtab.specs.AvTables.{table_at, plain_table_at}
use Rattle.pol_avtab.proofs.AvLaws.{table_unplaced}
use Rattle.pol_conditionals.specs.declared.CondNodeRec.{CondNodeRec}
use Rattle.pol_conditionals.specs.CondNodeRecord.{spell_condnode, CondNodeFits}
use Rattle.pol_conditionals.specs.CondNodeList.{conditionals_at, plain_conditionals_at}
use Rattle.pol_conditionals.proofs.CondNodeLaws.{conditionals_unplaced}
use Rattle.pol_trans.specs.declared.NameTrans.{NameTrans}
use Rattle.pol_trans.specs.declared.NameTransRec.{NameTransRec}
use Rattle.pol_trans.specs.declared.NameGroupRec.{NameGroupRec}
use Rattle.pol_trans.specs.NameTransitions.{name_transitions_at}
use Rattle.pol_trans.specs.RoleTransRecord.{role_trans_at, spell_role_trans, RoleTransFits}
use Rattle.pol_trans.specs.RoleAllowRecord.{role_allow_at, spell_role_allow, RoleAllowFits}
use Rattle.pol_trans.proofs.TransLaws.{role_trans_again, role_allow_again}
use Rattle.pol_file.specs.declared.RuleLists.{RuleLists}
use Rattle.pol_file.specs.PolicyParts.{rule_lists_at}
use Rattle.pol_tree.specs.declared.Tree.{Tree}
use Rattle.pol_tree.specs.TreeRanges.{TreeFits}
use Rattle.pol_tree.specs.TreeSpelling.{spell_name_transitions, spell_rules}
use Rattle.pol_write.proofs.PartLaws.{avtab-laws, condlist-laws, roletrans-laws, roleallow-laws}
use Rattle.pol_write.proofs.FoundParts.{HasNames, HasRules}
use Rattle.pol_moved.proofs.Granted.{Grants, grants-part, grants-done, grants-as, grants-through}
use Rattle.pol_moved.proofs.HeldRules.{HeldFits, HeldNode, rule_table-granted, conditionals-granted}
use Rattle.pol_moved.proofs.MovesRules.{moves-role_trans, moves-role_allow}
use Rattle.pol_moved.proofs.Stood.{Stood, stood-as, stood-whole, stood-through}
use Rattle.pol_moved.proofs.Stood.{stood-found}
use Rattle.pol_sound.proofs.Kept.{list-kept}
use Rattle.pol_sound.proofs.MovedTree.{moved_tree}

table-kept : (old version : ℕ) (xs : List AvRec) → CountedFits AvFits xs → AllByRecursion (HeldFits 30 version) xs → {table : List _} → values_of table ≡ xs → Stood (table_at old) table (spell_counted spell_av xs)
    → Grants (table_at version) (λ table. values_of table ≡ xs) (spell_counted spell_av xs)
table-kept old version xs fits held is stood =
    let plain = stood-through (table_at old) (plain_table_at old) (λ rules. values_of rules) (table_unplaced old) stood in
    let there = subst (λ (ys : List AvRec). Stood (plain_table_at old) ys (spell_counted spell_av xs)) is plain in
    grants-through (table_at version) (plain_table_at version) (λ rules. values_of rules) (λ ys. ys ≡ xs) (spell_counted spell_av xs) (table_unplaced version) (rule_table-granted old version xs fits held there)

conditionals-kept : (old version : ℕ) (xs : List CondNodeRec) → CountedFits CondNodeFits xs → AllByRecursion (HeldNode version) xs → {nodes : List _} → values_of nodes ≡ xs → Stood (conditionals_at old) nodes (spell_counted spell_condnode xs)
    → Grants (conditionals_at version) (λ nodes. values_of nodes ≡ xs) (spell_counted spell_condnode xs)
conditionals-kept old version xs fits held is stood =
    let plain = stood-through (conditionals_at old) (plain_conditionals_at old) (λ nodes. values_of nodes) (conditionals_unplaced old) stood in
    let there = subst (λ (ys : List CondNodeRec). Stood (plain_conditionals_at old) ys (spell_counted spell_condnode xs)) is plain in
    grants-through (conditionals_at version) (plain_conditionals_at version) (λ nodes. values_of nodes) (λ ys. ys ≡ xs) (spell_counted spell_condnode xs) (conditionals_unplaced version) (conditionals-granted old version xs fits held there)

-- the version has room for the rules
pub record HoldsRules (tree : Tree) (version : ℕ) : Type 0 where
  pub table : AllByRecursion (HeldFits 30 version) tree.avtab
  pub nodes : AllByRecursion (HeldNode version) tree.condlist

-- ---- where its lists stood

-- a value, seen as another one, was read from a text
pub record Seen {X Y : Type 0} (r : Reader X) (view : X → Y) (y : Y) (text : List ℕ) : Type 0 where
  pub value : X
  pub is : view value ≡ y
  pub stood : Stood r value text

pub record StoodRules (tree : Tree) : Type 0 where
  pub table : Seen (table_at tree.version) (λ rules. values_of rules) tree.avtab (spell_counted spell_av tree.avtab)
  pub nodes : Seen (conditionals_at tree.version) (λ nodes. values_of nodes) tree.condlist (spell_counted spell_condnode tree.condlist)
  pub trans : Seen (counted ROLETRANS_COUNT (records_at (placed role_trans_at))) (λ records. values_of records) tree.roletrans (spell_counted spell_role_trans tree.roletrans)
  pub allows : Seen (counted ROLEALLOW_COUNT (records_at (placed role_allow_at))) (λ records. values_of records) tree.roleallow (spell_counted spell_role_allow tree.roleallow)
  pub names : NameTrans
  pub names_stood : Stood (name_transitions_at tree.version) names (spell_name_transitions tree)

module _ (tree : Tree) (fits : TreeFits tree) where
  abbrev behind_trans : List ℕ
  behind_trans = spell_counted spell_role_allow tree.roleallow ++ spell_name_transitions tree

  abbrev behind_nodes : List ℕ
  behind_nodes = spell_counted spell_role_trans tree.roletrans ++ behind_trans

  abbrev behind_table : List ℕ
  behind_table = spell_counted spell_condnode tree.condlist ++ behind_nodes

  pub rules-there : (rules : RuleLists) → Stood (rule_lists_at tree.version) rules (spell_rules tree) → StoodRules tree
  unfolding rule_lists_at spell_rules
  rules-there rules stood =
      let there = stood-as {t = spell_counted spell_av tree.avtab ++ behind_table} stood (simp append_assoc) in
      let table = stood-found _ behind_table ((avtab-laws tree.version).again tree.avtab fits.avtab) there in
      let nodes = stood-found _ behind_nodes ((condlist-laws tree.version).again tree.condlist fits.condlist) table.others in
      let trans = stood-found _ behind_trans (roletrans-laws.again tree.roletrans fits.roletrans) nodes.others in
      let allows = stood-found _ (spell_name_transitions tree) (roleallow-laws.again tree.roleallow fits.roleallow) trans.others in
      let names = stood-whole (name_transitions_at tree.version) _ allows.others in
      record {
        table = record { value = table.value; is = table.is; stood = table.first };
        nodes = record { value = nodes.value; is = nodes.is; stood = nodes.first };
        trans = record { value = trans.value; is = trans.is; stood = trans.first };
        allows = record { value = allows.value; is = allows.is; stood = allows.first };
        names = names.part;
        names_stood = names.stood;
      }

-- ---- they are read at the other version

module _ (tree : Tree) (version : ℕ) (entries : List NameTransRec) (groups : List NameGroupRec) (fits : TreeFits tree) (holds : HoldsRules tree version) where
  abbrev new : Tree
  new = moved_tree version tree entries groups

  pub rules-kept : StoodRules tree → Grants (name_transitions_at version) (HasNames new) (spell_name_transitions new) → Grants (rule_lists_at version) (HasRules new) (spell_rules new)
  unfolding rule_lists_at spell_rules
  rules-kept there names =
      grants-as
      (grants-part _ (table-kept tree.version version tree.avtab fits.avtab holds.table there.table.is there.table.stood) λ new_table is_avtab.
      grants-part _ (conditionals-kept tree.version version tree.condlist fits.condlist holds.nodes there.nodes.is there.nodes.stood) λ new_nodes is_condlist.
      grants-part _ (list-kept ROLETRANS_COUNT role_trans_at spell_role_trans RoleTransFits role_trans_again moves-role_trans tree.roletrans fits.roletrans there.trans.value there.trans.is there.trans.stood) λ new_trans is_roletrans.
      grants-part _ (list-kept ROLEALLOW_COUNT role_allow_at spell_role_allow RoleAllowFits role_allow_again moves-role_allow tree.roleallow fits.roleallow there.allows.value there.allows.is there.allows.stood) λ new_allows is_roleallow.
      grants-part _ names λ new_names has_names.
      grants-done _ (record { avtab = is_avtab; condlist = is_condlist; roletrans = is_roletrans; roleallow = is_roleallow; names = has_names }))
      (simp (append_assoc, append-nil))
