-- The file-name transitions of a policy's tree have their sources from 1 on, since these are types that are declared.
use Rattle.std.proofs.Common.{◌≡◌, ℕ, zero, suc, ◌≤◌, Some, Ok, List, [], ◌∷◌, get_or, refl, sym, subst}
use Rattle.std.specs.List.{All, Contains, flat_map, slice_get}
use Rattle.std.proofs.lemmas.List.Elements.{All-map, All-nil, Contains-append_left, Contains-append_right, Contains-get_or}
use Rattle.std.proofs.lemmas.Option.{slice_get-get_or}
use Rattle.pol_cursor.specs.References.{Placed}
use Rattle.pol_fields.specs.declared.TableKind.TheVariants.{Types}
use Rattle.pol_trans.specs.declared.NameTransRec.{NameTransRec}
use Rattle.pol_trans.specs.declared.NameTrans.{NameTrans}
use Rattle.pol_trans.specs.declared.NameTrans.TheVariants.{Entries, Groups}
use Rattle.pol_file.specs.declared.Parts.{Parts}
use Rattle.pol_file.specs.Acceptance.{accept}
use Rattle.pol_read.specs.StoredRules.{StoredRule, name_rules, name_trans_rule, rule_sections, stored_rules}
use Rattle.pol_read.specs.DeclaredRules.{IsDeclaredIn, IsDeclaredRule}
use Rattle.pol_read.proofs.DeclaredTypes.{declared_type_is_value}
use Rattle.pol_read.proofs.RulesDeclared.{rule_is_declared}
use Rattle.pol_tree.specs.declared.Tree.{Tree}
use Rattle.pol_tree.specs.PolicyTree.{entries_of, tree_of}
use Rattle.pol_versions.specs.Conversion.{IsPolicyTree}
use Rattle.pol_versions.proofs.Members.{contains_map}

-- the rules of a section are stored rules
in_sections : (sections : List (List StoredRule)) (i : ℕ) (rules : List StoredRule) (rule : StoredRule) → slice_get sections i ≡ Some rules → Contains rules rule → Contains (flat_map (λ rules. rules) sections) rule
in_sections [] i rules rule e h = absurd cc
in_sections (s ∷ ss) zero rules rule e h = Contains-append_left s (flat_map (λ rules. rules) ss) rule (subst (λ (rs : List StoredRule). Contains rs rule) (sym same) h)
  where
    same : s ≡ rules
    same = cc
in_sections (s ∷ ss) (suc i) rules rule e h = Contains-append_right s (flat_map (λ rules. rules) ss) rule (in_sections ss i rules rule e h)

module _ (bytes : List ℕ) (policy : Parts) (accepted : accept bytes ≡ Ok policy) where
  -- the source of a transition that is stored one by one
  source_declared : (entry : Placed NameTransRec) → Contains (name_rules policy.symbols policy.rules.name_trans) (name_trans_rule entry) → IsDeclaredIn policy.symbols Types entry.value.source
  source_declared entry h =
      let m : Contains (stored_rules policy) (name_trans_rule entry) = in_sections (rule_sections policy) 4 (name_rules policy.symbols policy.rules.name_trans) (name_trans_rule entry) refl h in
      let rule = get_or (stored_rules policy) m.0 (name_trans_rule entry) in
      let declared : IsDeclaredRule policy rule = rule_is_declared bytes policy m.0 rule accepted (slice_get-get_or (stored_rules policy) m.0 (name_trans_rule entry) m.1) in
      (subst (IsDeclaredRule policy) m.2 declared).source

  entries_declared : (trans : NameTrans) → trans ≡ policy.rules.name_trans → All (λ entry. IsDeclaredIn policy.symbols Types entry.source) (entries_of trans)
  entries_declared (Groups groups) e = All-nil (λ (entry : NameTransRec). IsDeclaredIn policy.symbols Types entry.source)
  entries_declared (Entries entries) e =
      All-map (λ (entry : NameTransRec). IsDeclaredIn policy.symbols Types entry.source) (λ (entry : Placed NameTransRec). entry.value) entries λ i d lt.
      let entry = get_or entries i d in
      let there : Contains (name_rules policy.symbols policy.rules.name_trans) (name_trans_rule entry) =
      subst (λ (t : NameTrans). Contains (name_rules policy.symbols t) (name_trans_rule entry)) e (contains_map name_trans_rule entries entry (Contains-get_or entries i d lt)) in
      source_declared entry there

  pub sources_declared : All (λ entry. IsDeclaredIn policy.symbols Types entry.source) (tree_of policy).nametrans
  unfolding tree_of
  sources_declared = entries_declared policy.rules.name_trans refl

pub sources_from_one : (tree : Tree) → IsPolicyTree tree → All (λ entry. 1 ≤ entry.source) tree.nametrans
sources_from_one tree h =
    subst (λ (t : Tree). All (λ entry. 1 ≤ entry.source) t.nametrans) h.same λ i d lt.
    (declared_type_is_value h.bytes h.policy _ h.accepted (sources_declared h.bytes h.policy h.accepted i d lt)).0
