-- The enabled rules of a policy are the rules of the policy that has no others.
use Rattle.std.proofs.Common.{◌≡◌, ℕ, ◌+◌, zero, suc, Bool, true, false, cond, Option, Some, None, List, [], ◌∷◌, ◌++◌, length, map, slice_get, option_map, refl, sym, ap, ◌∙◌}
use Rattle.std.specs.List.{filter, flat_map, range_with_len}
use Rattle.std.proofs.lemmas.List.{length-map}
use Rattle.std.proofs.lemmas.List.Elements.{filter-append}
use Rattle.std.proofs.lemmas.Option.{slice_get-map}
use Rattle.pol_cursor.specs.References.{Placed}
use Rattle.pol_cursor.specs.NestedRecords.{placed_from}
use Rattle.pol_symbols.specs.declared.Symbols.{Symbols}
use Rattle.pol_expr.specs.ConditionMeaning.{same_truth}
use Rattle.pol_avtab.specs.declared.AvRec.{AvRec}
use Rattle.pol_conditionals.specs.declared.CondNodeRec.{CondNodeRec}
use Rattle.pol_conditionals.specs.CondNodeRecord.{branch_rules, rule_length, rules_of_branch as access_vectors_of}
use Rattle.pol_trans.specs.declared.NameTrans.{NameTrans}
use Rattle.pol_trans.specs.declared.NameTrans.TheVariants.{Entries, Groups}
use Rattle.pol_file.specs.declared.Parts.{Parts}
use Rattle.pol_read.specs.declared.Condition.{Condition}
use Rattle.pol_read.specs.StoredRules.{StoredRule, av_rule, declared_sources, name_rule, name_rules, name_trans_rule, range_trans_rule, role_allow_rule, role_trans_rule, rules_of_branch, rules_of_datum, rules_of_group, rules_of_node, rules_of_nodes, stored_rules}
use Rattle.bool_state.specs.BooleanStates.{Booleans}
use Rattle.counted_rules.specs.CountedRules.{counts, is_branch_on, is_enabled, node_value, rules_under}
use Rattle.counted_rules.specs.EnabledPolicy.{enabled_node, enabled_policy, one_branch}

-- ---- the access vectors of a branch

abbrev found_rules : Option (Placed CondNodeRec) → Bool → List (Placed AvRec)
found_rules None branch = []
found_rules (Some node) branch = branch_rules node branch

found_are : (nodes : List (Placed CondNodeRec)) (i : ℕ) (branch : Bool) → access_vectors_of nodes i branch ≡ found_rules (slice_get nodes i) branch
found_are [] i branch = refl
found_are (node ∷ nodes) zero branch = refl
found_are (node ∷ nodes) (suc i) branch = found_are nodes i branch

-- a rule does not tell where its access vector stands
no_places : (condition : Option Condition) (avs : List AvRec) (p q : ℕ) → map (av_rule condition) (placed_from rule_length p avs) ≡ map (av_rule condition) (placed_from rule_length q avs)
unfolding placed_from
no_places condition [] p q = refl
no_places condition (av ∷ avs) p q = ap (λ (rules : List StoredRule). av_rule condition (record { place = p; value = av }) ∷ rules) (no_places condition avs (p + rule_length av) (q + rule_length av))

-- one branch alone has its rules
of_branch : (condition : Option Condition) (value branch : Bool) (node : Placed CondNodeRec) → cond (same_truth value branch) (map (av_rule condition) (branch_rules node branch)) [] ≡ map (av_rule condition) (branch_rules (one_branch value node) branch)
unfolding placed_from
of_branch condition true true node = refl
of_branch condition true false node = refl
of_branch condition false true node = refl
of_branch condition false false node = no_places condition node.value.false_rules _ _

-- ---- which rules are enabled

module _ (nodes : List (Placed CondNodeRec)) (on : Booleans) where
  abbrev passes : StoredRule → Bool
  passes rule = is_enabled nodes on rule.condition

  -- rules that pass all or none
  alike : {X : Type 0} (f : X → StoredRule) (test : Bool) → ((x : X) → passes (f x) ≡ test) → (xs : List X) → filter passes (map f xs) ≡ cond test (map f xs) []
  alike f true h [] = refl
  alike f false h [] = refl
  alike f test h (x ∷ xs) = ap (λ (t : Bool). cond t (f x ∷ filter passes (map f xs)) (filter passes (map f xs))) (h x) ∙ by test (alike f test h xs)
    where
      by : (t : Bool) → filter passes (map f xs) ≡ cond t (map f xs) [] → cond t (f x ∷ filter passes (map f xs)) (filter passes (map f xs)) ≡ cond t (f x ∷ map f xs) []
      by true e = ap (λ (rules : List StoredRule). f x ∷ rules) e
      by false e = e

  -- rules without a condition
  free : {X : Type 0} (f : X → StoredRule) → ((x : X) → (f x).condition ≡ None) → (xs : List X) → filter passes (map f xs) ≡ map f xs
  unfolding is_enabled
  free f none xs = alike f true (λ x. ap (is_enabled nodes on) (none x)) xs

  joined : (xs ys rest others : List StoredRule) → filter passes xs ≡ ys → filter passes rest ≡ others → filter passes (xs ++ rest) ≡ ys ++ others
  joined xs ys rest others e f = filter-append passes xs rest ∙ ap (λ (l : List StoredRule). l ++ filter passes rest) e ∙ ap (λ (l : List StoredRule). ys ++ l) f

  each : {X : Type 0} (f g : X → List StoredRule) → ((x : X) → filter passes (f x) ≡ g x) → (xs : List X) → filter passes (flat_map f xs) ≡ flat_map g xs
  each f g h [] = refl
  each f g h (x ∷ xs) = joined (f x) (g x) (flat_map f xs) (flat_map g xs) (h x) (each f g h xs)

  names : (symbols : Symbols) (trans : NameTrans) → filter passes (name_rules symbols trans) ≡ name_rules symbols trans
  names symbols (Entries entries) = free name_trans_rule (λ x. refl) entries
  names symbols (Groups groups) =
      each (rules_of_group symbols) (rules_of_group symbols)
      (λ group. each (rules_of_datum symbols group.value) (rules_of_datum symbols group.value) (λ datum. free (λ (source : ℕ). name_rule group.value.name source group.value.target group.value.class datum.default) (λ x. refl) (declared_sources symbols datum)) group.value.datums) groups

  -- the rules of a branch of a node
  branch_enabled : (i : ℕ) (branch : Bool) → filter passes (rules_of_branch nodes i branch) ≡ rules_of_branch (map (enabled_node on) nodes) i branch
  unfolding is_enabled
  branch_enabled i branch =
      ap (λ (avs : List (Placed AvRec)). filter passes (map (av_rule condition) avs)) (found_are nodes i branch)
      ∙ by (slice_get nodes i) refl
      ∙ sym (ap (map (av_rule condition)) (found_are (map (enabled_node on) nodes) i branch ∙ ap (λ (o : Option (Placed CondNodeRec)). found_rules o branch) (slice_get-map (enabled_node on) nodes i)))
    where
      condition : Option Condition
      condition = Some (record { node = i; branch = branch })

      by : (o : Option (Placed CondNodeRec)) → slice_get nodes i ≡ o → filter passes (map (av_rule condition) (found_rules o branch)) ≡ map (av_rule condition) (found_rules (option_map (enabled_node on) o) branch)
      by None e = refl
      by (Some node) e =
          alike (av_rule condition) (same_truth (node_value on node) branch) (λ av. ap (is_branch_on on branch) e) (branch_rules node branch)
          ∙ of_branch condition (node_value on node) branch node

  of_nodes : filter passes (rules_of_nodes nodes) ≡ rules_of_nodes (map (enabled_node on) nodes)
  of_nodes =
      each (rules_of_node nodes) (rules_of_node (map (enabled_node on) nodes))
      (λ i. joined (rules_of_branch nodes i true) (rules_of_branch (map (enabled_node on) nodes) i true) (rules_of_branch nodes i false) (rules_of_branch (map (enabled_node on) nodes) i false) (branch_enabled i true) (branch_enabled i false))
      (range_with_len 0 (length nodes))
      ∙ ap (λ (n : ℕ). flat_map (rules_of_node (map (enabled_node on) nodes)) (range_with_len 0 n)) (sym (length-map nodes (enabled_node on)))

pub enabled_rules : (policy : Parts) (on : Booleans) → filter (counts (rules_under policy on)) (stored_rules policy) ≡ stored_rules (enabled_policy policy on)
enabled_rules policy on =
    let nodes = policy.rules.conditionals in
    joined nodes on _ _ _ _ (free nodes on (av_rule None) (λ x. refl) policy.rules.table)
    (joined nodes on _ _ _ _ (of_nodes nodes on)
    (joined nodes on _ _ _ _ (free nodes on role_trans_rule (λ x. refl) policy.rules.role_trans)
    (joined nodes on _ _ _ _ (free nodes on role_allow_rule (λ x. refl) policy.rules.role_allows)
    (joined nodes on _ _ _ _ (names nodes on policy.symbols policy.rules.name_trans)
    (joined nodes on _ _ _ _ (free nodes on range_trans_rule (λ x. refl) policy.labels.range_trans) refl)))))
