-- Marks tell which values were added.
use Rattle.std.proofs.Common.{◌≡◌, ℕ, ◌<◌, Bool, true, false, List, [], ◌∷◌, ◌++◌, refl, sym, ap, subst, ◌∙◌, inl, inr}
use Rattle.std.specs.Prelude.{◌||◌, ◌==◌}
use Rattle.std.specs.List.{All}
use Rattle.std.proofs.lemmas.List.Elements.{All-nil, All-push}
use Rattle.std.proofs.lemmas.Bool.{cases_eq, cases_Bool, cond-true, cond-false, ne_eqb, eqb-false, or_parts, or_from, or_left}
use Rattle.std.proofs.lemmas.List.Folds.{list_any-append}
use Rattle.value_groups.specs.Among.{is_among}
use Rattle.value_groups.specs.Inner.Marking.{MarkedValues, with_value, AreApart, AreMarked}

or_false : (b : Bool) → (b || false) ≡ b
or_false true = refl
or_false false = refl

or_true : (b : Bool) → (b || true) ≡ true
or_true true = refl
or_true false = refl

-- among values and one more
pub among_push : (values : List ℕ) (value other : ℕ) → is_among (values ++ value ∷ []) other ≡ (is_among values other || (value == other))
among_push values value other =
    list_any-append (λ x. x == other) values (value ∷ []) ∙ ap (λ (b : Bool). is_among values other || b) (or_false (value == other))

with_known : (values : List ℕ) (value other : ℕ) → is_among values value ≡ true → is_among values other ≡ (is_among values other || (value == other))
with_known values value other t = elim (cases_eq value other) [
  | inl e ↦
      let there : is_among values other ≡ true = subst (λ (v : ℕ). is_among values v ≡ true) e t in
      there ∙ sym (or_left (is_among values other) (value == other) there)
  | inr n ↦ sym (ap (λ (b : Bool). is_among values other || b) (ne_eqb value other n) ∙ or_false (is_among values other))
]

-- adding one that is there changes nothing
pub among_with : (values : List ℕ) (value other : ℕ) → is_among (with_value values value) other ≡ (is_among values other || (value == other))
among_with values value other = elim (cases_Bool (is_among values value)) [
  | inl t ↦ ap (λ (xs : List ℕ). is_among xs other) (cond-true (is_among values value) values (values ++ value ∷ []) t) ∙ with_known values value other t
  | inr f ↦ ap (λ (xs : List ℕ). is_among xs other) (cond-false (is_among values value) values (values ++ value ∷ []) f) ∙ among_push values value other
]

apart_push : (values : List ℕ) (value : ℕ) → AreApart values → is_among values value ≡ false → AreApart (values ++ value ∷ [])
apart_push [] value apart new = (refl, tt)
apart_push (x ∷ xs) value apart new =
    let parts = or_parts (x == value) (is_among xs value) new in
    (among_push xs value x ∙ or_from (is_among xs x) (value == x) apart.0 (ne_eqb value x (λ e. eqb-false x value parts.0 (sym e))), apart_push xs value apart.1 parts.1)

pub marks_none : (marks : MarkedValues) (count : ℕ) → marks ≡ record { count = count; values = [] } → AreMarked marks []
marks_none marks count is = rw is (record { each = λ value. refl; within = All-nil (λ value. value < count); apart = tt })

pub marks_more : (marks next : MarkedValues) (values : List ℕ) (value : ℕ) → AreMarked marks values → value < marks.count → is_among marks.values value ≡ false → next.count ≡ marks.count
    → ((other : ℕ) → is_among next.values other ≡ (is_among marks.values other || (value == other))) → AreMarked next (values ++ value ∷ [])
marks_more marks next values value are lt unmarked count more = record {
  each = λ other. more other ∙ ap (λ (b : Bool). b || (value == other)) (are.each other) ∙ sym (among_push values value other);
  within = subst (λ (n : ℕ). All (λ value. value < n) (values ++ value ∷ [])) (sym count) (All-push (λ value. value < marks.count) values value are.within lt);
  apart = apart_push values value are.apart (sym (are.each value) ∙ unmarked);
}
