-- Only rules of the classes of what is left make a difference.
use Rattle.std.proofs.Common.{◌≡◌, inl, inr, Bool, true, false, cond, List, [], ◌∷◌, ◌++◌, map, refl, sym, ap, ◌∙◌}
use Rattle.std.specs.Prelude.{◌||◌, ◌&&◌, ◌==◌, ◌⊎◌}
use Rattle.std.specs.List.{filter, list_any}
use Rattle.std.proofs.lemmas.Bool.{eqb-true}
use Rattle.keyed_lists.specs.Differences.{differ, is_difference}
use Rattle.keyed_lists.proofs.DifferenceLaws.{no_difference}
use Rattle.keyed_lists.proofs.Rising.{Rises, in_order_rises}
use Rattle.numbered_rules.specs.declared.key.SingleKey.{SingleKey}
use Rattle.numbered_rules.specs.declared.key.Counting.{Counting}
use Rattle.numbered_rules.specs.NumberedRules.{NumberedRule, covers, has, key_cmp, same_given, single_differences, single_entries, unconditioned}
use Rattle.numbered_rules.specs.Inner.Cells.{AreOfClasses, HaveLeft, has_class}
use Rattle.numbered_rules.proofs.Tests.{any_filter, any_implies, any_map, and_both, and_of, both_ways, false_or_true}
use Rattle.numbered_rules.proofs.Members.{member, member_kept, rises_filter}
use Rattle.numbered_rules.proofs.Orders.{key_order}
use Rattle.numbered_rules.proofs.Values.{AreAlikeAt, all_keys, both_by, differences_at, has_difference, same_itself, value_alike, value_by}
use Rattle.numbered_rules.proofs.Rows.{covered_by}

covered_class : (key : SingleKey) (rule : NumberedRule) → covers key rule ≡ true → (rule.class == key.class) ≡ true
covered_class key rule e =
    let p = and_both (has rule.sources key.source) _ e in
    let q = and_both (has rule.targets key.target) _ p.1 in
    (and_both (rule.class == key.class) _ q.1).0

module _ (left : List NumberedRule) where
  abbrev touches : SingleKey → Bool
  touches key = has_class left key.class

  -- a rule that speaks of a key has its class
  class_of : (key : SingleKey) (rule : NumberedRule) → covers key rule ≡ true → has_class left rule.class ≡ touches key
  class_of key rule e = ap (has_class left) (eqb-true rule.class key.class (covered_class key rule e))

  -- among the rules of those classes is what is among all, at a key of such a class
  alike_kept : (all rules : List NumberedRule) → AreOfClasses left all rules → (key : SingleKey) → touches key ≡ true → AreAlikeAt key rules all
  alike_kept all rules are key touched test only =
      are test ∙ any_filter test (λ r. has_class left r.class) all
      ∙ both_ways (list_any (λ r. has_class left r.class && test r) all) (list_any test all)
      (any_implies (λ r. has_class left r.class && test r) test (λ r e. (and_both (has_class left r.class) (test r) e).1) all)
      (any_implies test (λ r. has_class left r.class && test r) (λ r e. and_of (has_class left r.class) (test r) (class_of key r (only r e) ∙ touched) e) all)

  -- what is left of all rules is left of those of its classes
  pub left_of_kept : (first second a b : List NumberedRule) → AreOfClasses left first a → AreOfClasses left second b → HaveLeft left first second → HaveLeft left a b
  left_of_kept first second a b first_are second_are have = record {
    of_first = λ test e. over test second b second_are (have.of_first (kept test) (sym (any_filter test (λ r. has_class left r.class) first) ∙ sym (first_are test) ∙ e));
    of_second = λ test e. over test first a first_are (have.of_second (kept test) (sym (any_filter test (λ r. has_class left r.class) second) ∙ sym (second_are test) ∙ e));
  }
    where
      kept : (NumberedRule → Bool) → NumberedRule → Bool
      kept test r = has_class left r.class && test r

      over : (test : NumberedRule → Bool) (all rules : List NumberedRule) → AreOfClasses left all rules → (list_any (kept test) all ≡ true) ⊎ (list_any (kept test) left ≡ true)
          → (list_any test rules ≡ true) ⊎ (list_any test left ≡ true)
      over test all rules are (inl l) = inl (are test ∙ any_filter test (λ r. has_class left r.class) all ∙ l)
      over test all rules are (inr r) = inr (any_implies (kept test) test (λ r e. (and_both (has_class left r.class) (test r) e).1) left r)

  module _ (counting : Counting) (first second a b : List NumberedRule) (first_are : AreOfClasses left first a) (second_are : AreOfClasses left second b) (have : HaveLeft left first second) where
    -- where no rule that is left has the class of a key, the lists are alike
    alike_others : (key : SingleKey) → touches key ≡ false → AreAlikeAt key first second
    alike_others key none test only =
        both_ways (list_any test first) (list_any test second) (λ e. by (list_any test second) (have.of_first test e)) (λ e. by (list_any test first) (have.of_second test e))
      where
        by : (b : Bool) → (b ≡ true) ⊎ (list_any test left ≡ true) → b ≡ true
        by b (inl e) = e
        by b (inr e) = absurd (false_or_true (touches key) (any_map (λ c. c == key.class) (λ r. r.class) left ∙ any_implies test (λ r. r.class == key.class) (λ r e. covered_class key r (only r e)) left e) none)

    abbrev differs : SingleKey → Bool
    differs key = is_difference same_given (both_by counting first second key)

    touched : (key : SingleKey) → differs key ≡ true → touches key ≡ true
    touched key d = by (touches key) refl
      where
        by : (t : Bool) → touches key ≡ t → touches key ≡ true
        by true e = e
        by false e =
            let same : value_by counting first key ≡ value_by counting second key = value_alike counting key first second (alike_others key e) (alike_others (unconditioned key) e) in
            absurd (false_or_true (differs key) d (ap (λ v. differ same_given v (value_by counting second key)) same ∙ no_difference same_given same_itself (value_by counting second key)))

    -- at a key of their classes the rules tell what all rules tell
    same_both : (key : SingleKey) → touches key ≡ true → both_by counting a b key ≡ both_by counting first second key
    same_both key t = λ i. record {
      first = value_alike counting key a first (alike_kept first a first_are key t) (alike_kept first a first_are (unconditioned key) t) i;
      second = value_alike counting key b second (alike_kept second b second_are key t) (alike_kept second b second_are (unconditioned key) t) i;
    }

    -- a rule of these that speaks of a key has its class
    kept_class : (key : SingleKey) (all rules : List NumberedRule) → AreOfClasses left all rules → list_any (covers key) rules ≡ true → touches key ≡ true
    kept_class key all rules are e = by (touches key) refl
      where
        by : (t : Bool) → touches key ≡ t → touches key ≡ true
        by true f = f
        by false f = absurd (false_or_true (list_any (λ r. has_class left r.class && covers key r) all) (sym (any_filter (covers key) (λ r. has_class left r.class) all) ∙ sym (are (covers key)) ∙ e)
            (nothing (λ r. has_class left r.class && covers key r) (λ r. none r (covers key r) refl f) all))
          where
            none : (r : NumberedRule) (c : Bool) → covers key r ≡ c → touches key ≡ false → (has_class left r.class && c) ≡ false
            none r true g f = ap (λ b. b && true) (class_of key r g ∙ f)
            none r false g f = neither (has_class left r.class)
              where
                neither : (b : Bool) → (b && false) ≡ false
                neither true = refl
                neither false = refl

            nothing : (p : NumberedRule → Bool) → ((r : NumberedRule) → p r ≡ false) → (rules : List NumberedRule) → list_any p rules ≡ false
            nothing p h [] = refl
            nothing p h (r ∷ rules) = rw (h r, nothing p h rules) refl

    kept_touched : (key : SingleKey) → is_difference same_given (both_by counting a b key) ≡ true → touches key ≡ true
    kept_touched key d = by (list_any (covers key) a) refl (covered_by counting left a b (list_any (covers key) a) (list_any (covers key) b) _ _ d)
      where
        by : (c : Bool) → list_any (covers key) a ≡ c → (c || list_any (covers key) b) ≡ true → touches key ≡ true
        by true e f = kept_class key first a first_are e
        by false e f = kept_class key second b second_are f

    -- the keys of those classes
    abbrev keys : List SingleKey
    keys = filter touches (all_keys counting first second)

    keys_rise : Rises key_cmp keys
    keys_rise = rises_filter key_cmp key_order touches (all_keys counting first second) (in_order_rises key_cmp key_order.total (map (λ e. e.key) (single_entries counting first) ++ map (λ e. e.key) (single_entries counting second)))

    there : (key : SingleKey) → differs key ≡ true → touches key ≡ true → member key_cmp keys key ≡ true
    there key d t = member_kept key_cmp key_order touches key (all_keys counting first second) ∙ and_of (touches key) (member key_cmp (all_keys counting first second) key) t (has_difference counting first second key d)

    all_touched : (ks : List SingleKey) → map (both_by counting a b) (filter touches ks) ≡ map (both_by counting first second) (filter touches ks)
    all_touched [] = refl
    all_touched (key ∷ ks) = by (touches key) refl (all_touched ks)
      where
        by : (t : Bool) → touches key ≡ t → map (both_by counting a b) (filter touches ks) ≡ map (both_by counting first second) (filter touches ks)
            → map (both_by counting a b) (cond t (key ∷ filter touches ks) (filter touches ks)) ≡ map (both_by counting first second) (cond t (key ∷ filter touches ks) (filter touches ks))
        by true e rest = rw (same_both key e, rest) refl
        by false e rest = rest

    pub kept_differences : single_differences counting a b ≡ single_differences counting first second
    kept_differences =
        differences_at counting a b keys keys_rise
        (λ key d. let t : touches key ≡ true = kept_touched key d in there key (ap (is_difference same_given) (sym (same_both key t)) ∙ d) t)
        ∙ ap (filter (is_difference same_given)) (all_touched (all_keys counting first second))
        ∙ sym (differences_at counting first second keys keys_rise (λ key d. there key d (touched key d)))
