-- Elements that pass a test.
use Rattle.std.proofs.Common.{◌≡◌, ℕ, ◌+◌, ◌<◌, Bool, true, false, List, [], ◌∷◌, length, take, get_or, refl, ap, subst, ◌∙◌, inl, inr}
use Rattle.std.specs.Prelude.{◌||◌, ◌==◌}
use Rattle.std.specs.List.{All, Contains, filter, list_any}
use Rattle.std.proofs.lemmas.Bool.{false≢true, or_cases, or_left, or_right, eqb-true, eq-eqb}
use Rattle.std.proofs.lemmas.List.{take_more}
use Rattle.std.proofs.lemmas.List.Folds.{list_any-append}
use Rattle.std.proofs.lemmas.List.Elements.{All-head, All-tail, Contains-append_right, Contains-append_cases}
use Rattle.pol_bitmap.proofs.Elements.{contains_nothing, contains_one, contains_first}
use Rattle.value_groups.specs.Among.{is_among}

pub any_gives : {X : Type 0} (p : X → Bool) (xs : List X) → list_any p xs ≡ true → (x : X) × Contains xs x × (p x ≡ true)
any_gives p [] e = absurd (false≢true e)
any_gives p (x ∷ xs) e = elim (or_cases (p x) (list_any p xs) e) [
  | inl t ↦ (x, contains_first x xs, t)
  | inr r ↦ let f = any_gives p xs r in (f.0, Contains-append_right (x ∷ []) xs f.0 f.1, f.2)
]

pub any_from : {X : Type 0} (p : X → Bool) (xs : List X) (x : X) → Contains xs x → p x ≡ true → list_any p xs ≡ true
any_from p [] x h e = absurd (contains_nothing x h)
any_from p (y ∷ ys) x h e = elim (Contains-append_cases (y ∷ []) ys x h) [
  | inl one ↦ or_left (p y) (list_any p ys) (ap p (contains_one x y one) ∙ e)
  | inr r ↦ or_right (p y) (list_any p ys) (any_from p ys x r e)
]

pub among_contains : (xs : List ℕ) (x : ℕ) → is_among xs x ≡ true → Contains xs x
among_contains xs x e =
    let f = any_gives (λ y. y == x) xs e in
    subst (λ (y : ℕ). Contains xs y) (eqb-true f.0 x f.2) f.1

pub contains_among : (xs : List ℕ) (x : ℕ) → Contains xs x → is_among xs x ≡ true
contains_among xs x h = any_from (λ y. y == x) xs x h (eq-eqb x x refl)

pub or_false : (b : Bool) → (b || false) ≡ b
or_false true = refl
or_false false = refl

pub or_assoc : (a b c : Bool) → ((a || b) || c) ≡ (a || (b || c))
or_assoc true b c = refl
or_assoc false b c = refl

-- one element more
pub any_more : {X : Type 0} (p : X → Bool) (xs : List X) (i : ℕ) (d : X) → i < length xs → list_any p (take (i + 1) xs) ≡ (list_any p (take i xs) || p (get_or xs i d))
any_more p xs i d lt = ap (list_any p) (take_more xs i d lt) ∙ list_any-append p (take i xs) (get_or xs i d ∷ []) ∙ ap (λ (b : Bool). list_any p (take i xs) || b) (or_false (p (get_or xs i d)))

pub any_agree : {X : Type 0} (p q : X → Bool) (xs : List X) → All (λ x. p x ≡ q x) xs → list_any p xs ≡ list_any q xs
any_agree p q [] h = refl
any_agree {X} p q (x ∷ xs) h = rw (All-head (λ (x : X). p x ≡ q x) x xs h, any_agree p q xs (All-tail (λ (x : X). p x ≡ q x) x xs h)) refl

pub filter_agree : (p q : ℕ → Bool) (xs : List ℕ) → All (λ x. p x ≡ q x) xs → filter p xs ≡ filter q xs
filter_agree p q [] h = refl
filter_agree p q (x ∷ xs) h = rw (All-head (λ (x : ℕ). p x ≡ q x) x xs h, filter_agree p q xs (All-tail (λ (x : ℕ). p x ≡ q x) x xs h)) refl
