-- The differences source by source and target by target are all of them.
use Rattle.std.proofs.Common.{◌≡◌, inl, inr, ℕ, Bool, true, false, cond, Option, None, List, [], ◌∷◌, ◌++◌, map, refl, sym, ap, subst, ◌∙◌}
use Rattle.std.specs.Prelude.{◌||◌, ◌&&◌, ◌==◌, ◌⊎◌}
use Rattle.std.specs.List.{filter, flat_map, list_any, AllByRecursion}
use Rattle.std.specs.Ordering.{nat_cmp}
use Rattle.std.proofs.lemmas.List.Folds.{list_any-append}
use Rattle.keyed_lists.specs.Differences.{differ, is_difference}
use Rattle.keyed_lists.proofs.DifferenceLaws.{no_difference}
use Rattle.keyed_lists.proofs.Rising.{Rises, in_order_rises}
use Rattle.numbered_rules.specs.declared.key.SingleKey.{SingleKey}
use Rattle.numbered_rules.specs.declared.key.Counting.{Counting}
use Rattle.numbered_rules.specs.NumberedRules.{NumberedRule, SingleEntry, covers, has, is_labelled, key_cmp, same_given, single_differences, unconditioned}
use Rattle.numbered_rules.specs.Inner.Cells.{HaveLeft, all_sources, both_labelled, cell_differences, cell_keys, key_between, labelled_value, row_differences, row_targets, target_differences, value_of, with_source, with_target}
use Rattle.numbered_rules.proofs.Tests.{any_agree, any_filter, any_flat_map, any_implies, any_map, and_both, and_of, both_ways, eq_itself, false_or_true, filter_filter, flat_agree, kept_together}
use Rattle.numbered_rules.proofs.Members.{is_key, member, at_member, member_in_order}
use Rattle.numbered_rules.proofs.Orders.{all_flat, all_in_order, all_weaker, has_member, key_order, nat_order, rises_flat, source_below, target_below, tied_keys}
use Rattle.numbered_rules.proofs.Values.{AreAlikeAt, both_by, differences_at, same_itself, value_alike, value_by, value_is}

module _ (counting : Counting) (left first second : List NumberedRule) where
  -- ---- where a difference is

  abbrev Differs : SingleKey → Type 0
  Differs key = is_difference same_given (both_by counting first second key) ≡ true

  -- a rule has a source and a target
  abbrev joins : ℕ → ℕ → NumberedRule → Bool
  joins source target rule = has rule.sources source && has rule.targets target

  covered_joins : (key : SingleKey) (rule : NumberedRule) → covers key rule ≡ true → joins key.source key.target rule ≡ true
  covered_joins key rule e =
      let p = and_both (has rule.sources key.source) _ e in
      let q = and_both (has rule.targets key.target) _ p.1 in
      and_of (has rule.sources key.source) (has rule.targets key.target) p.0 q.0

  module _ (have : HaveLeft left first second) where
    -- where no rule that is left has the source and the target of a key, the lists are alike
    alike : (key other : SingleKey) → other.source ≡ key.source → other.target ≡ key.target → list_any (joins key.source key.target) left ≡ false → AreAlikeAt other first second
    alike key other s t none test only =
        both_ways (list_any test first) (list_any test second)
        (λ e. by (list_any test second) (have.of_first test e))
        (λ e. by (list_any test first) (have.of_second test e))
      where
        joined : (rule : NumberedRule) → test rule ≡ true → joins key.source key.target rule ≡ true
        joined rule e = subst (λ n. joins n key.target rule ≡ true) s (subst (λ n. joins other.source n rule ≡ true) t (covered_joins other rule (only rule e)))

        by : (b : Bool) → (b ≡ true) ⊎ (list_any test left ≡ true) → b ≡ true
        by b (inl e) = e
        by b (inr e) = absurd (false_or_true (list_any (joins key.source key.target) left) (any_implies test (joins key.source key.target) joined left e) none)

    touched : (key : SingleKey) → Differs key → list_any (joins key.source key.target) left ≡ true
    touched key differs = by (list_any (joins key.source key.target) left) refl
      where
        by : (b : Bool) → list_any (joins key.source key.target) left ≡ b → list_any (joins key.source key.target) left ≡ true
        by true e = e
        by false e =
            let same : value_by counting first key ≡ value_by counting second key = value_alike counting key first second (alike key key refl refl e) (alike key (unconditioned key) refl refl e) in
            absurd (false_or_true (is_difference same_given (both_by counting first second key)) differs
            (ap (λ v. differ same_given v (value_by counting second key)) same ∙ no_difference same_given same_itself (value_by counting second key)))

  -- a key that has a difference is one of a rule
  pub covered_by : (a b : Bool) (v w : Option SingleEntry) → differ same_given (cond a v None) (cond b w None) ≡ true → (a || b) ≡ true
  covered_by true b v w e = refl
  covered_by false true v w e = refl
  covered_by false false v w e = absurd cc

  -- ---- the keys at which is looked

  abbrev rules_at : ℕ → ℕ → List NumberedRule
  rules_at source target = with_target target (with_source source first) ++ with_target target (with_source source second)

  abbrev keys_at : ℕ → ℕ → List SingleKey
  keys_at source target = cell_keys source target (rules_at source target)

  abbrev keys_from : ℕ → List SingleKey
  keys_from source = flat_map (keys_at source) (row_targets left source)

  abbrev all_looked : List SingleKey
  all_looked = flat_map keys_from (all_sources left)

  abbrev Between : ℕ → ℕ → SingleKey → Type 0
  Between source target key = (key.source ≡ source) × (key.target ≡ target)

  between_mapped : (source target : ℕ) (rules : List NumberedRule) → AllByRecursion (Between source target) (map (key_between source target) rules)
  between_mapped source target [] = tt
  between_mapped source target (rule ∷ rules) = ((refl, refl), between_mapped source target rules)

  between : (source target : ℕ) → AllByRecursion (Between source target) (keys_at source target)
  between source target = all_in_order key_cmp (Between source target) (map (key_between source target) (rules_at source target)) (between_mapped source target (rules_at source target))

  sources_are : (source : ℕ) → AllByRecursion (λ key. key.source ≡ source) (keys_from source)
  sources_are source = all_flat key_cmp (λ key. key.source ≡ source) (keys_at source) (λ target. all_weaker key_cmp (Between source target) (λ key. key.source ≡ source) (λ key p. p.0) (keys_at source target) (between source target)) (row_targets left source)

  row_rises : (source : ℕ) → Rises key_cmp (keys_from source)
  unfolding row_targets
  row_rises source =
      rises_flat key_cmp (keys_at source) (Between source) (between source)
      (λ n m a b e p q. target_below a b (p.0 ∙ sym q.0) (ap (λ x. nat_cmp x b.target) p.1 ∙ ap (nat_cmp n) q.1 ∙ e))
      (λ target. in_order_rises key_cmp key_order.total (map (key_between source target) (rules_at source target)))
      (row_targets left source) (in_order_rises nat_cmp nat_order.total (flat_map (λ r. r.targets) (with_source source left)))

  looked_rises : Rises key_cmp all_looked
  unfolding all_sources
  looked_rises =
      rises_flat key_cmp keys_from (λ n key. key.source ≡ n) sources_are
      (λ n m a b e p q. source_below a b (ap (λ x. nat_cmp x b.source) p ∙ ap (nat_cmp n) q ∙ e))
      row_rises (all_sources left) (in_order_rises nat_cmp nat_order.total (flat_map (λ r. r.sources) left))

  -- the rules of a cell that have a key's class, file name and condition are those that speak of it
  covered_in_cell : (key : SingleKey) (rules : List NumberedRule) → list_any (is_labelled key) (with_target key.target (with_source key.source rules)) ≡ list_any (covers key) rules
  covered_in_cell key rules =
      any_filter (is_labelled key) (λ r. has r.targets key.target) (with_source key.source rules)
      ∙ any_filter (λ r. has r.targets key.target && is_labelled key r) (λ r. has r.sources key.source) rules

  in_cell : (key : SingleKey) → member key_cmp (keys_at key.source key.target) key ≡ (list_any (covers key) first || list_any (covers key) second)
  in_cell key =
      member_in_order key_cmp key_order key (map (key_between key.source key.target) (rules_at key.source key.target))
      ∙ any_map (is_key key_cmp key) (key_between key.source key.target) (rules_at key.source key.target)
      ∙ any_agree (λ r. is_key key_cmp key (key_between key.source key.target r)) (is_labelled key) labelled (rules_at key.source key.target)
      ∙ list_any-append (is_labelled key) (with_target key.target (with_source key.source first)) (with_target key.target (with_source key.source second))
      ∙ ap (λ b. b || list_any (is_labelled key) (with_target key.target (with_source key.source second))) (covered_in_cell key first)
      ∙ ap (λ b. list_any (covers key) first || b) (covered_in_cell key second)
    where
      labelled : (r : NumberedRule) → is_key key_cmp key (key_between key.source key.target r) ≡ is_labelled key r
      labelled r =
          tied_keys (key_between key.source key.target r) key
          ∙ ap (λ b. b && ((key.target == key.target) && is_labelled key r)) (eq_itself key.source)
          ∙ ap (λ b. b && is_labelled key r) (eq_itself key.target)

  module _ (have : HaveLeft left first second) where
    looked_at : (key : SingleKey) → Differs key → member key_cmp all_looked key ≡ true
    unfolding all_sources row_targets
    looked_at key differs =
        any_flat_map (is_key key_cmp key) keys_from (all_sources left)
        ∙ at_member nat_cmp nat_order (λ s. member key_cmp (keys_from s) key) key.source (all_sources left) source
        (any_flat_map (is_key key_cmp key) (keys_at key.source) (row_targets left key.source)
        ∙ at_member nat_cmp nat_order (λ t. member key_cmp (keys_at key.source t) key) key.target (row_targets left key.source) target
        (in_cell key ∙ covered_by (list_any (covers key) first) (list_any (covers key) second) _ _ differs))
      where
        source : member nat_cmp (all_sources left) key.source ≡ true
        source =
            member_in_order nat_cmp nat_order key.source (flat_map (λ r. r.sources) left)
            ∙ any_flat_map (is_key nat_cmp key.source) (λ r. r.sources) left
            ∙ any_implies (joins key.source key.target) (λ r. member nat_cmp r.sources key.source)
            (λ r e. sym (has_member r.sources key.source) ∙ (and_both (has r.sources key.source) (has r.targets key.target) e).0) left (touched have key differs)

        target : member nat_cmp (row_targets left key.source) key.target ≡ true
        target =
            member_in_order nat_cmp nat_order key.target (flat_map (λ r. r.targets) (with_source key.source left))
            ∙ any_flat_map (is_key nat_cmp key.target) (λ r. r.targets) (with_source key.source left)
            ∙ any_filter (λ r. member nat_cmp r.targets key.target) (λ r. has r.sources key.source) left
            ∙ any_implies (joins key.source key.target) (λ r. has r.sources key.source && member nat_cmp r.targets key.target)
            (λ r e. ap (λ b. has r.sources key.source && b) (sym (has_member r.targets key.target)) ∙ e) left (touched have key differs)

    -- ---- what is found there

    labelled_is : (key : SingleKey) (rules : List NumberedRule) → labelled_value counting (with_target key.target (with_source key.source rules)) key ≡ value_by counting rules key
    unfolding labelled_value
    labelled_is key rules =
        ap (value_of counting key (filter (is_labelled (unconditioned key)) (with_target key.target (with_source key.source rules)))) (these key)
        ∙ ap (λ us. value_of counting key us (filter (covers key) rules)) (these (unconditioned key))
        ∙ value_is counting rules key
      where
        these : (k : SingleKey) → filter (is_labelled k) (with_target k.target (with_source k.source rules)) ≡ filter (covers k) rules
        these k =
            filter_filter (is_labelled k) (λ r. has r.targets k.target) (with_source k.source rules)
            ∙ filter_filter (λ r. has r.targets k.target && is_labelled k r) (λ r. has r.sources k.source) rules

    both_are : (source target : ℕ) (key : SingleKey) → Between source target key
        → both_labelled counting (with_target target (with_source source first)) (with_target target (with_source source second)) key ≡ both_by counting first second key
    unfolding both_labelled
    both_are source target key is =
        ap (λ s. both_labelled counting (with_target target (with_source s first)) (with_target target (with_source s second)) key) (sym is.0)
        ∙ ap (λ t. both_labelled counting (with_target t (with_source key.source first)) (with_target t (with_source key.source second)) key) (sym is.1)
        ∙ (λ i. record { first = labelled_is key first i; second = labelled_is key second i })

    map_between : (source target : ℕ) (keys : List SingleKey) → AllByRecursion (Between source target) keys
        → map (both_labelled counting (with_target target (with_source source first)) (with_target target (with_source source second))) keys ≡ map (both_by counting first second) keys
    map_between source target [] h = refl
    map_between source target (key ∷ keys) h = rw (both_are source target key h.0, map_between source target keys h.1) refl

    row_is : (source : ℕ) → row_differences counting left first second source ≡ filter (is_difference same_given) (map (both_by counting first second) (keys_from source))
    unfolding row_differences target_differences cell_differences
    row_is source =
        flat_agree (λ t. target_differences counting source (with_source source first) (with_source source second) t) (λ t. filter (is_difference same_given) (map (both_by counting first second) (keys_at source t)))
        (λ t. ap (filter (is_difference same_given)) (map_between source t (keys_at source t) (between source t))) (row_targets left source)
        ∙ kept_together (is_difference same_given) (both_by counting first second) (keys_at source) (row_targets left source)

    pub rows_are : flat_map (row_differences counting left first second) (all_sources left) ≡ single_differences counting first second
    rows_are =
        flat_agree (row_differences counting left first second) (λ s. filter (is_difference same_given) (map (both_by counting first second) (keys_from s))) row_is (all_sources left)
        ∙ kept_together (is_difference same_given) (both_by counting first second) keys_from (all_sources left)
        ∙ sym (differences_at counting first second all_looked looked_rises looked_at)
