-- A conversion keeps the stored rules.
use Rattle.std.proofs.Common.{◌≡◌, ℕ, ◌≤◌, ◌<◌, ◌^◌, Bool, true, false, None, Ok, List, [], ◌++◌, map, refl, sym, subst, arith}
use Rattle.std.specs.List.{All, Contains, flat_map}
use Rattle.std.proofs.lemmas.List.{append-nil}
use Rattle.pol_trans.specs.declared.NameTransRec.{NameTransRec}
use Rattle.pol_trans.specs.declared.NameGroupRec.{NameGroupRec}
use Rattle.pol_trans.specs.NameTransitions.{has_groups}
use Rattle.pol_convert.specs.Grouped.{grouped}
use Rattle.pol_convert.specs.Ungrouped.{ungrouped}
use Rattle.pol_file.specs.declared.Parts.{Parts}
use Rattle.pol_file.specs.Acceptance.{accept}
use Rattle.pol_file.proofs.Acceptances.{accepted_has_type_values}
use Rattle.pol_read.specs.StoredRules.{StoredRule, av_rule, range_trans_rule, role_allow_rule, role_trans_rule}
use Rattle.pol_read.proofs.DeclaredTypes.{declared_type_is_value}
use Rattle.pol_tree.specs.declared.Tree.{Tree}
use Rattle.pol_tree.specs.PolicyTree.{tree_of}
use Rattle.pol_versions.specs.Conversion.{converted, tree_at, values_of_types, with_names}
use Rattle.pol_versions.specs.KeptRecords.{bare_rules, HasSame}
use Rattle.pol_versions.proofs.DeclaredSources.{sources_declared}
use Rattle.pol_versions.proofs.DeclaredTypes.{named_declared, value_declared, values_fit}
use Rattle.pol_versions.proofs.GroupedRules.{grouped_same}
use Rattle.pol_versions.proofs.Members.{same_append, same_itself}
use Rattle.pol_versions.proofs.NameForms.{accepted_has_form}
use Rattle.pol_versions.proofs.RulesOfTrees.{declared_by, entry_rule, group_rules, names_of, node_rules, rule_of_value, rules_of_tree, tree_rules, with_names_of}
use Rattle.pol_versions.proofs.UngroupedRules.{ungrouped_same}

same_turned : {A : Type 0} (a b : List A) → HasSame a b → HasSame b a
same_turned a b h = record { each = λ x. ((h.each x).1, (h.each x).0) }

-- other names, in their place
same_front : (p a b : List StoredRule) → HasSame a b → HasSame (p ++ a) (p ++ b)
same_front p a b h = same_append p p a b (same_itself p) h

same_within : (p q r s a b t : List StoredRule) → HasSame a b → HasSame (p ++ (q ++ (r ++ (s ++ (a ++ t))))) (p ++ (q ++ (r ++ (s ++ (b ++ t)))))
same_within p q r s a b t h =
    same_front p (q ++ (r ++ (s ++ (a ++ t)))) (q ++ (r ++ (s ++ (b ++ t))))
    (same_front q (r ++ (s ++ (a ++ t))) (r ++ (s ++ (b ++ t)))
    (same_front r (s ++ (a ++ t)) (s ++ (b ++ t))
    (same_front s (a ++ t) (b ++ t)
    (same_append a b t t h (same_itself t)))))

in_place : (tree : Tree) (a b : List StoredRule) → HasSame a b → HasSame (with_names_of tree a) (with_names_of tree b)
in_place tree a b h =
    same_within (map (rule_of_value (av_rule None)) tree.avtab) (node_rules tree.condlist) (map (rule_of_value role_trans_rule) tree.roletrans) (map (rule_of_value role_allow_rule) tree.roleallow)
    a b (map (rule_of_value range_trans_rule) tree.rangetrans ++ []) h

-- what is known of the file-name transitions of a policy's tree
record HasDeclaredNames (tree : Tree) : Type 0 where
  no_entry : has_groups tree.version ≡ true → tree.nametrans ≡ []
  no_group : has_groups tree.version ≡ false → tree.namegroup ≡ []
  declared : (value : ℕ) → Contains (map (λ type. type.value) tree.types) value → declared_by tree.types value ≡ true
  fit : All (λ value. value < 2 ^ 32) (map (λ type. type.value) tree.types)
  entries_declared : All (λ entry. declared_by tree.types entry.source ≡ true) tree.nametrans
  entries_from_one : All (λ entry. 1 ≤ entry.source) tree.nametrans
  entries_fit : All (λ entry. entry.source < 2 ^ 32) tree.nametrans

policy_names : (bytes : List ℕ) (policy : Parts) → accept bytes ≡ Ok policy → HasDeclaredNames (tree_of policy)
unfolding tree_of
policy_names bytes policy accepted =
    let form = accepted_has_form bytes policy accepted in
    let sources = sources_declared bytes policy accepted in
    let few = (accepted_has_type_values bytes policy accepted).few in
    record {
      no_entry = form.no_entry;
      no_group = form.no_group;
      declared = value_declared bytes policy accepted;
      fit = values_fit bytes policy accepted;
      entries_declared = λ i d lt. named_declared bytes policy accepted _ (sources i d lt);
      entries_from_one = λ i d lt. (declared_type_is_value bytes policy _ accepted (sources i d lt)).0;
      entries_fit = λ i d lt. let small = (declared_type_is_value bytes policy _ accepted (sources i d lt)).1 in omega (arith, small, few);
    }

module _ (tree : Tree) (has : HasDeclaredNames tree) where
  -- entries in place of groups
  to_entries : has_groups tree.version ≡ true → HasSame (names_of tree.types tree.nametrans tree.namegroup) (names_of tree.types (ungrouped (values_of_types tree.types) tree.namegroup) [])
  to_entries e =
      let groups = flat_map (group_rules tree.types) tree.namegroup in
      let entries = map entry_rule (ungrouped (values_of_types tree.types) tree.namegroup) in
      subst (λ (ns : List NameTransRec). HasSame (map entry_rule ns ++ groups) (entries ++ [])) (sym (has.no_entry e))
      (subst (HasSame groups) (sym (append-nil entries)) (same_turned entries groups (ungrouped_same tree.types has.declared has.fit tree.namegroup)))

  -- groups in place of entries
  to_groups : has_groups tree.version ≡ false → HasSame (names_of tree.types tree.nametrans tree.namegroup) (names_of tree.types [] (grouped tree.nametrans))
  to_groups e =
      let entries = map entry_rule tree.nametrans in
      let groups = flat_map (group_rules tree.types) (grouped tree.nametrans) in
      subst (λ (gs : List NameGroupRec). HasSame (entries ++ flat_map (group_rules tree.types) gs) groups) (sym (has.no_group e))
      (subst (λ (rs : List StoredRule). HasSame rs groups) (sym (append-nil entries)) (grouped_same tree.types tree.nametrans has.entries_declared has.entries_from_one has.entries_fit))

  names_same : (version : ℕ) (before after : Bool) → has_groups tree.version ≡ before → HasSame (tree_rules tree) (tree_rules (with_names before after (tree_at version tree)))
  unfolding tree_rules
  names_same version true true e = same_itself _
  names_same version false false e = same_itself _
  names_same version true false e = in_place tree _ _ (to_entries e)
  names_same version false true e = in_place tree _ _ (to_groups e)

  converted_same : (version : ℕ) → HasSame (tree_rules tree) (tree_rules (converted tree version))
  unfolding converted
  converted_same version = names_same version (has_groups tree.version) (has_groups version) refl

pub conversion_keeps_rules : (bytes : List ℕ) (old new : Parts) (version : ℕ) → accept bytes ≡ Ok old → tree_of new ≡ converted (tree_of old) version → HasSame (bare_rules old) (bare_rules new)
conversion_keeps_rules bytes old new version accepted e =
    let same : HasSame (tree_rules (tree_of old)) (tree_rules (tree_of new)) = subst (λ (t : Tree). HasSame (tree_rules (tree_of old)) (tree_rules t)) (sym e) (converted_same (tree_of old) (policy_names bytes old accepted) version) in
    subst (λ (rs : List StoredRule). HasSame rs (bare_rules new)) (sym (rules_of_tree old)) (subst (HasSame (tree_rules (tree_of old))) (sym (rules_of_tree new)) same)
