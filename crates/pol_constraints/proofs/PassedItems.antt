-- An iterator over a list has passed some of its items.
use Rattle.std.proofs.Common.{◌≡◌, ℕ, zero, suc, ◌+◌, ◌<◌, ◌≤◌, Option, Some, None, List, [], ◌∷◌, length, drop, refl, sym, ◌∙◌, add-one, arith}
use Rattle.std.specs.Prelude.{slice_get, MatchOption, IsSome}

next_suc : {A : Type 0} (xs : List A) (i : ℕ) (x : A) (rest : List A) → drop i xs ≡ x ∷ rest → (slice_get xs i ≡ Some x) × (drop (suc i) xs ≡ rest)
next_suc [] zero x rest e = absurd cc
next_suc [] (suc i) x rest e = absurd cc
next_suc (y ∷ ys) zero x rest e = (cc, cc)
next_suc (y ∷ ys) (suc i) x rest e = next_suc ys i x rest e

-- the next item, by those that are left
pub next_dropped : {A : Type 0} (xs : List A) (i : ℕ) (x : A) (rest : List A) → drop i xs ≡ x ∷ rest → (slice_get xs i ≡ Some x) × (drop (i + 1) xs ≡ rest)
next_dropped xs i x rest e = rw add-one (next_suc xs i x rest e)

nothing_left : {A : Type 0} (xs : List A) (i : ℕ) → drop i xs ≡ [] → (drop (suc i) xs ≡ []) × (length xs ≤ i)
nothing_left [] i e = (refl, omega arith)
nothing_left (y ∷ ys) zero e = absurd cc
nothing_left (y ∷ ys) (suc i) e = let h = nothing_left ys i e in (h.0, omega (arith, h.1))

pub passed_next : {A : Type 0} (xs : List A) (i : ℕ) (left rest : List A) (r : Option A) → drop i xs ≡ left → MatchOption r ((left ≡ []) × (rest ≡ [])) (λ x. left ≡ x ∷ rest) → drop (i + 1) xs ≡ rest
passed_next xs i left rest None e h = rw add-one ((nothing_left xs i (e ∙ h.0)).0 ∙ sym h.1)
passed_next xs i left rest (Some x) e h = (next_dropped xs i x rest (e ∙ h)).1

pub passed_some : {A : Type 0} (xs : List A) (i : ℕ) (left rest : List A) (r : Option A) → i < length xs → drop i xs ≡ left → MatchOption r ((left ≡ []) × (rest ≡ [])) (λ x. left ≡ x ∷ rest) → IsSome r
passed_some xs i left rest None lt e h = absurd (omega (arith, (nothing_left xs i (e ∙ h.0)).1))
passed_some xs i left rest (Some x) lt e h = refl
