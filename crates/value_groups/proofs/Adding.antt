-- Values that are added one by one, by tests of the elements of a list.
use Rattle.std.proofs.Common.{◌≡◌, ℕ, ◌+◌, ◌<◌, Bool, List, [], ◌∷◌, ◌++◌, length, take, get_or, refl, sym, ap, ◌∙◌}
use Rattle.std.specs.Prelude.{◌||◌, ◌==◌}
use Rattle.std.specs.List.{list_any}
use Rattle.value_groups.specs.Among.{is_among}
use Rattle.value_groups.specs.Inner.Marking.{with_value}
use Rattle.value_groups.proofs.Marks.{among_with}
use Rattle.value_groups.proofs.Anys.{any_more, or_assoc, or_false}

-- ---- values added one by one, by a test of what is still to come

-- what is there, or still to come, stays the same
pub record Adding {X : Type 0} (test : ℕ → X → Bool) (all left : List X) (old now : List ℕ) : Type 0 where
  pub each : (value : ℕ) → (is_among now value || list_any (test value) left) ≡ (is_among old value || list_any (test value) all)

pub adding_start : {X : Type 0} (test : ℕ → X → Bool) (all : List X) (old : List ℕ) → Adding test all all old old
adding_start test all old = record { each = λ value. refl }

pub adding_next : {X : Type 0} (test : ℕ → X → Bool) (all : List X) (x : X) (left : List X) (old now next : List ℕ) → Adding test all (x ∷ left) old now → ((value : ℕ) → is_among next value ≡ (is_among now value || test value x)) → Adding test all left old next
adding_next test all x left old now next are more = record {
  each = λ value.
      ap (λ (b : Bool). b || list_any (test value) left) (more value) ∙ or_assoc (is_among now value) (test value x) (list_any (test value) left) ∙ are.each value;
}

pub adding_end : {X : Type 0} (test : ℕ → X → Bool) (all : List X) (old now : List ℕ) → Adding test all [] old now → (value : ℕ) → is_among now value ≡ (is_among old value || list_any (test value) all)
adding_end test all old now are value = sym (or_false (is_among now value)) ∙ are.each value

-- one value added
pub added_one : (old new : List ℕ) (x : ℕ) → new ≡ with_value old x → (value : ℕ) → is_among new value ≡ (is_among old value || (x == value))
added_one old new x e value = ap (λ (xs : List ℕ). is_among xs value) e ∙ among_with old x value

-- ---- over the front of a list

pub record AddedFront {X : Type 0} (test : ℕ → X → Bool) (front : List X) (old now : List ℕ) : Type 0 where
  pub each : (value : ℕ) → is_among now value ≡ (is_among old value || list_any (test value) front)

pub front_none : {X : Type 0} (test : ℕ → X → Bool) (old : List ℕ) → AddedFront test [] old old
front_none test old = record { each = λ value. sym (or_false (is_among old value)) }

pub front_more : {X : Type 0} (test : ℕ → X → Bool) (all : List X) (i : ℕ) (d : X) (old now next : List ℕ) → i < length all → AddedFront test (take i all) old now → ((value : ℕ) → is_among next value ≡ (is_among now value || test value (get_or all i d)))
    → AddedFront test (take (i + 1) all) old next
front_more test all i d old now next lt are more = record {
  each = λ value.
      more value ∙ ap (λ (b : Bool). b || test value (get_or all i d)) (are.each value) ∙ or_assoc (is_among old value) (list_any (test value) (take i all)) (test value (get_or all i d))
      ∙ ap (λ (b : Bool). is_among old value || b) (sym (any_more (test value) all i d lt));
}
