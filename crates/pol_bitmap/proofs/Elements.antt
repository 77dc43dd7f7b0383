-- Elements of lists, and of the lists of numbers from one on.
use Rattle.std.proofs.Common.{◌≡◌, ℕ, ◌+◌, ◌-◌, ◌<◌, ◌≤◌, Bool, true, List, [], ◌∷◌, inl, inr, refl, sym, ap, subst, ◌∙◌, arith}
use Rattle.std.specs.List.{All, Contains, filter, range_with_len}
use Rattle.std.proofs.lemmas.Bool.{cond_both}
use Rattle.std.proofs.lemmas.List.Elements.{All-cons, All-nil, All-contains, All-contains_itself, All-filter, All-from_get_or, Contains-get_or, Contains-append_right, Contains-append_cases, filter_passes}
use Rattle.std.proofs.lemmas.List.FromFn.{length-range_with_len, get_or-range_with_len}

pub contains_nothing : {X : Type 0} (x : X) → Contains [] x → ⊥
contains_nothing x h = omega (arith, h.1)

pub contains_one : {X : Type 0} (x y : X) → Contains (y ∷ []) x → y ≡ x
contains_one {X} x y h = All-contains (λ (z : X). y ≡ z) (y ∷ []) x (All-cons (λ (z : X). y ≡ z) y [] refl (All-nil (λ (z : X). y ≡ z))) h

pub contains_first : {X : Type 0} (x : X) (xs : List X) → Contains (x ∷ xs) x
contains_first x xs = Contains-get_or (x ∷ xs) 0 x (omega arith)

-- what a filter keeps is in the list, and passes
pub kept : {X : Type 0} (p : X → Bool) (xs : List X) (x : X) → Contains (filter p xs) x → Contains xs x × (p x ≡ true)
kept p xs x h = (All-contains (Contains xs) (filter p xs) x (All-filter p (Contains xs) xs (All-contains_itself xs)) h, All-contains (λ y. p y ≡ true) (filter p xs) x (filter_passes p xs) h)

-- and it keeps all that does
pub keeps : {X : Type 0} (p : X → Bool) (xs : List X) (x : X) → Contains xs x → p x ≡ true → Contains (filter p xs) x
keeps p [] x h e = absurd (contains_nothing x h)
keeps {X} p (y ∷ ys) x h e = elim (Contains-append_cases (y ∷ []) ys x h) [
  | inl one ↦
      let same : y ≡ x = contains_one x y one in
      let passes : p y ≡ true = ap p same ∙ e in
      rw passes (subst (λ (z : X). Contains (z ∷ filter p ys) x) (sym same) (contains_first x (filter p ys)))
  | inr rest ↦ cond_both (p y) (y ∷ filter p ys) (filter p ys) (λ (zs : List X). Contains zs x) (λ t. Contains-append_right (y ∷ []) (filter p ys) x (keeps p ys x rest e)) (λ t. keeps p ys x rest e)
]

-- ---- the numbers from a on

pub range_holds : (a n : ℕ) → All (λ b. (a ≤ b) × (b < a + n)) (range_with_len a n)
range_holds a n = All-from_get_or (λ b. (a ≤ b) × (b < a + n)) (range_with_len a n) 0 λ i lt.
    let within : i < n = omega (arith, lt, length-range_with_len a n) in
    let e = get_or-range_with_len a n i 0 within in
    rw e (omega arith, omega arith)

pub contains_range : (a n b : ℕ) → a ≤ b → b < a + n → Contains (range_with_len a n) b
contains_range a n b le lt =
    let within : b - a < n = omega arith in
    let at : a + (b - a) ≡ b = omega arith in
    subst (Contains (range_with_len a n)) (get_or-range_with_len a n (b - a) 0 within ∙ at) (Contains-get_or (range_with_len a n) (b - a) 0 (omega (arith, length-range_with_len a n)))
