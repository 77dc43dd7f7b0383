-- The elements of a list that pass a test.
use Rattle.std.proofs.Common.{◌≡◌, Bool, true, inl, inr, List, [], ◌∷◌, ap, ◌∙◌}
use Rattle.std.specs.List.{Contains, list_any}
use Rattle.std.proofs.lemmas.Bool.{false≢true, or_cases, or_left, or_right}
use Rattle.std.proofs.lemmas.List.Elements.{Contains-append_cases, Contains-append_right}
use Rattle.pol_bitmap.proofs.Elements.{contains_nothing, contains_one, contains_first}

pub any_gives : {A : Type 0} (p : A → Bool) (xs : List A) → list_any p xs ≡ true → (x : A) × Contains xs x × (p x ≡ true)
any_gives p [] e = absurd (false≢true e)
any_gives p (x ∷ xs) e = elim (or_cases (p x) (list_any p xs) e) [
  | inl t ↦ (x, contains_first x xs, t)
  | inr r ↦ let f = any_gives p xs r in (f.0, Contains-append_right (x ∷ []) xs f.0 f.1, f.2)
]

pub any_from : {A : Type 0} (p : A → Bool) (xs : List A) (x : A) → Contains xs x → p x ≡ true → list_any p xs ≡ true
any_from p [] x h e = absurd (contains_nothing x h)
any_from p (y ∷ ys) x h e = elim (Contains-append_cases (y ∷ []) ys x h) [
  | inl one ↦ or_left (p y) (list_any p ys) (ap p (contains_one x y one) ∙ e)
  | inr r ↦ or_right (p y) (list_any p ys) (any_from p ys x r e)
]
