-- What tests find among forms that others have not.
use Rattle.std.proofs.Common.{◌≡◌, inl, inr, ℕ, ◌+◌, ◌<◌, Bool, true, false, List, [], ◌∷◌, ◌++◌, length, take, slice_index_or, map, refl, subst, sym, ap, ◌∙◌}
use Rattle.std.specs.Prelude.{◌↔◌, ◌⊎◌, ◌||◌, ◌&&◌, Contains}
use Rattle.std.specs.List.{filter, list_any}
use Rattle.std.specs.List.Sorted.{IsPermutation}
use Rattle.std.proofs.lemmas.List.{take_more}
use Rattle.std.proofs.lemmas.List.Sorted.{list_any-IsPermutation}
use Rattle.std.proofs.lemmas.List.Elements.{All-filter}
use Rattle.std.proofs.lemmas.List.Folds.{list_any_at, list_any-append}
use Rattle.pol_bitmap.specs.declared.node.Node.{Node}
use Rattle.numbered_rules.specs.declared.form.RuleForm.{RuleForm}
use Rattle.numbered_rules.specs.Forms.{HasSets, HaveSets, rule_of, rules_of}
use Rattle.numbered_rules.specs.NumberedRules.{NumberedRule, has}
use Rattle.numbered_rules.specs.Inner.Cells.{AreOfClasses, HaveLeft, has_class}
use Rattle.numbered_rules.proofs.Tests.{any_agree, any_filter, any_map, both_ways, or_left, or_right}
use Rattle.numbered_rules.proofs.SetFacts.{contains_has, has_contains, or_either}

module _ {X : Type 0} (test : X → Bool) where
  pub found_by : (xs : List X) (x : X) → Contains xs x → test x ≡ true → list_any test xs ≡ true
  found_by xs x c e = list_any_at test xs c.0 x c.1 (ap test c.2 ∙ e)

  pub kept_by : (xs : List X) (x : X) → list_any test xs ≡ true → list_any test (xs ++ x ∷ []) ≡ true
  kept_by xs x e = list_any-append test xs (x ∷ []) ∙ or_left (list_any test xs) _ e

  pub added_by : (xs : List X) (x : X) → test x ≡ true → list_any test (xs ++ x ∷ []) ≡ true
  added_by xs x e = list_any-append test xs (x ∷ []) ∙ or_right (list_any test xs) _ (or_left (test x) false e)

  pub of_more : (xs : List X) (i : ℕ) (d : X) → i < length xs → list_any test (take (i + 1) xs) ≡ true → (list_any test (take i xs) ≡ true) ⊎ (test (slice_index_or xs i d) ≡ true)
  of_more xs i d lt e = elim (or_either (list_any test (take i xs)) _ (sym (list_any-append test (take i xs) (slice_index_or xs i d ∷ [])) ∙ ap (list_any test) (sym (take_more xs i d lt)) ∙ e)) [
    | inl l ↦ inl l
    | inr r ↦ inr (sym (or_false (test (slice_index_or xs i d))) ∙ r)
  ]
    where
      or_false : (b : Bool) → (b || false) ≡ b
      or_false true = refl
      or_false false = refl

  -- one more element is looked at
  pub step_found : (xs others old new : List X) (i : ℕ) (d : X) → i < length xs
      → ((list_any test (take i xs) ≡ true) → (list_any test others ≡ true) ⊎ (list_any test old ≡ true))
      → (list_any test old ≡ true → list_any test new ≡ true)
      → (test (slice_index_or xs i d) ≡ true → (list_any test others ≡ true) ⊎ (list_any test new ≡ true))
      → list_any test (take (i + 1) xs) ≡ true → (list_any test others ≡ true) ⊎ (list_any test new ≡ true)
  step_found xs others old new i d lt before kept here e = elim (of_more xs i d lt e) [
    | inl l ↦ elim (before l) [
      | inl o ↦ inl o
      | inr h ↦ inr (kept h)
    ]
    | inr r ↦ here r
  ]

pub have_left : (sets : List (List Node)) (left first second : List RuleForm)
    → ((test : RuleForm → Bool) → list_any test first ≡ true → (list_any test second ≡ true) ⊎ (list_any test left ≡ true))
    → ((test : RuleForm → Bool) → list_any test second ≡ true → (list_any test first ≡ true) ⊎ (list_any test left ≡ true))
    → HaveLeft (rules_of sets left) (rules_of sets first) (rules_of sets second)
have_left sets left first second f s = record {
  of_first = λ test e. over test second left (f (λ form. test (rule_of sets form)) (sym (any_map test (rule_of sets) first) ∙ e));
  of_second = λ test e. over test first left (s (λ form. test (rule_of sets form)) (sym (any_map test (rule_of sets) second) ∙ e));
}
  where
    over : (test : NumberedRule → Bool) (xs ys : List RuleForm) → (list_any (λ form. test (rule_of sets form)) xs ≡ true) ⊎ (list_any (λ form. test (rule_of sets form)) ys ≡ true)
        → (list_any test (rules_of sets xs) ≡ true) ⊎ (list_any test (rules_of sets ys) ≡ true)
    over test xs ys (inl l) = inl (any_map test (rule_of sets) xs ∙ l)
    over test xs ys (inr r) = inr (any_map test (rule_of sets) ys ∙ r)

pub same_tested : {X : Type 0} (xs ys zs : List X) → ys ≡ xs → IsPermutation ys zs → (test : X → Bool) → list_any test zs ≡ list_any test xs
same_tested xs ys zs e permutation test = sym (list_any-IsPermutation test ys zs permutation) ∙ ap (list_any test) e

pub same_or : {X : Type 0} (test : X → Bool) (sorted others old new : List X) → list_any test sorted ≡ list_any test others → (list_any test old ≡ true → list_any test new ≡ true)
    → (list_any test sorted ≡ true) ⊎ (list_any test old ≡ true) → (list_any test others ≡ true) ⊎ (list_any test new ≡ true)
same_or test sorted others old new same kept (inl l) = inl (sym same ∙ l)
same_or test sorted others old new same kept (inr r) = inr (kept r)

-- the rules of the forms that have the classes of what is left
pub classes_kept : (sets : List (List Node)) (left forms found kept : List RuleForm) (classes : List ℕ) → ((class : ℕ) → has classes class ≡ has (map (λ form. form.class) left) class)
    → found ≡ filter (λ form. has classes form.class) forms → ((test : RuleForm → Bool) → list_any test kept ≡ list_any test found) → AreOfClasses (rules_of sets left) (rules_of sets forms) (rules_of sets kept)
classes_kept sets left forms found kept classes are is same test =
    any_map test (rule_of sets) kept
    ∙ same (λ form. test (rule_of sets form))
    ∙ ap (list_any (λ form. test (rule_of sets form))) is
    ∙ any_filter (λ form. test (rule_of sets form)) (λ form. has classes form.class) forms
    ∙ any_agree (λ form. has classes form.class && test (rule_of sets form)) (λ form. has_class (rules_of sets left) form.class && test (rule_of sets form))
    (λ form. ap (λ b. b && test (rule_of sets form)) (are form.class ∙ ap (λ cs. has cs form.class) (classes_mapped left))) forms
    ∙ sym (any_filter test (λ rule. has_class (rules_of sets left) rule.class) (rules_of sets forms) ∙ any_map (λ rule. has_class (rules_of sets left) rule.class && test rule) (rule_of sets) forms)
  where
    classes_mapped : (fs : List RuleForm) → map (λ form. form.class) fs ≡ map (λ rule. rule.class) (rules_of sets fs)
    classes_mapped [] = refl
    classes_mapped (form ∷ fs) = ap (λ cs. form.class ∷ cs) (classes_mapped fs)

pub values_had : (ns ms : List ℕ) → ((n : ℕ) → Contains ns n ↔ Contains ms n) → (n : ℕ) → has ns n ≡ has ms n
values_had ns ms same n =
    both_ways (has ns n) (has ms n) (λ e. contains_has ms n ((same n).0 (has_contains ns n e))) (λ e. contains_has ns n ((same n).1 (has_contains ms n e)))

pub sets_kept : (sets : List (List Node)) (p : RuleForm → Bool) (forms found : List RuleForm) → found ≡ filter p forms → HaveSets sets forms → HaveSets sets found
sets_kept sets p forms found is have = subst (HaveSets sets) (sym is) (All-filter p (HasSets sets) forms have)
