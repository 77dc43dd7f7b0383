-- Places of lists: the first items of a list, and one item put in place of another.
use Rattle.std.proofs.Common.{◌≡◌, ℕ, zero, suc, ◌<◌, ◌≤◌, ◌+◌, ◌-◌, Bool, true, false, not, List, [], ◌∷◌, ◌++◌, Some, length, take, slice_get, refl, ap, ◌∙◌, eqb, arith}
use Rattle.std.specs.Prelude.{slice_set, replicate}
use Rattle.std.specs.List.{position, position_or_len}
use Rattle.std.proofs.lemmas.Bool.{eqb-true, eqb-false, lt-ltb, le-ltb}
use Rattle.std.proofs.lemmas.List.{take_more, take_all, length-append}
use Rattle.std.proofs.lemmas.List.Folds.{position_or_len_push}
use Rattle.std.proofs.lemmas.List.Sums.{prefix_len-le-length}
use Rattle.std.proofs.lemmas.Option.{get_or_from_slice_get, slice_get_within}
use Rattle.pol_symtab.proofs.Searches.{by_order}

pub slice_get_take : {X : Type 0} (xs : List X) (n k : ℕ) (x : X) → slice_get (take n xs) k ≡ Some x → (slice_get xs k ≡ Some x) × (k < n)
slice_get_take [] zero k x e = absurd cc
slice_get_take [] (suc n) k x e = absurd cc
slice_get_take (y ∷ ys) zero k x e = absurd cc
slice_get_take (y ∷ ys) (suc n) zero x e = (e, omega arith)
slice_get_take (y ∷ ys) (suc n) (suc k) x e = let h = slice_get_take ys n k x e in (h.0, omega (arith, h.1))

pub slice_get_in_take : {X : Type 0} (xs : List X) (n k : ℕ) → k < n → slice_get (take n xs) k ≡ slice_get xs k
slice_get_in_take xs zero k lt = absurd (omega (arith, lt))
slice_get_in_take [] (suc n) k lt = refl
slice_get_in_take (y ∷ ys) (suc n) zero lt = refl
slice_get_in_take (y ∷ ys) (suc n) (suc k) lt = slice_get_in_take ys n k (omega (arith, lt))

pub take_then : {X : Type 0} (xs : List X) (i : ℕ) (x : X) → slice_get xs i ≡ Some x → take (i + 1) xs ≡ take i xs ++ x ∷ []
take_then {X} xs i x at = take_more xs i x (slice_get_within xs i x at) ∙ ap (λ (y : X). take i xs ++ y ∷ []) (get_or_from_slice_get xs i x x at)

pub slice_get_set : {X : Type 0} (xs : List X) (i : ℕ) (x : X) → i < length xs → slice_get (slice_set xs i x) i ≡ Some x
slice_get_set [] i x lt = absurd (omega (arith, lt))
slice_get_set (y ∷ ys) zero x lt = refl
slice_get_set (y ∷ ys) (suc i) x lt = slice_get_set ys i x (omega (arith, lt))

pub slice_get_set_other : {X : Type 0} (xs : List X) (i j : ℕ) (x : X) → (i ≡ j → ⊥) → slice_get (slice_set xs i x) j ≡ slice_get xs j
slice_get_set_other [] i j x other = refl
slice_get_set_other (y ∷ ys) zero zero x other = absurd (other refl)
slice_get_set_other (y ∷ ys) zero (suc j) x other = refl
slice_get_set_other (y ∷ ys) (suc i) zero x other = refl
slice_get_set_other (y ∷ ys) (suc i) (suc j) x other = slice_get_set_other ys i j x (λ e. other (ap suc e))

-- a list that was empty and is filled up
pub filled_up : {X : Type 0} (x : X) (old new : List X) (n len : ℕ) → old ≡ [] → len ≡ 0 → new ≡ take n old ++ replicate (n - len) x → new ≡ replicate n x
filled_up {X} x old new n len empty none is =
    let m : n - len ≡ n = omega (arith, none) in
    let t : take n old ≡ [] = take_all n old (rw empty (omega arith)) ∙ empty in
    is ∙ rw (t, m) refl

-- one more item, which does not pass
more-go : {X : Type 0} (p : X → Bool) (xs : List X) (x : X) → p x ≡ false → (b : Bool) → eqb (position_or_len p xs) (length xs) ≡ b → position p (xs ++ x ∷ []) ≡ position p xs
more-go p xs x fails true e =
    let at = eqb-true (position_or_len p xs) (length xs) e in
    let n : position_or_len p (xs ++ x ∷ []) ≡ length xs + 1 = position_or_len_push p xs x ∙ rw (e, fails) refl in
    rw (n, at, length-append xs (x ∷ []), le-ltb (length xs + 1) (length xs + 1) (omega arith), le-ltb (length xs) (length xs) (omega arith)) refl
more-go p xs x fails false e =
    let other = eqb-false (position_or_len p xs) (length xs) e in
    let le : position_or_len p xs ≤ length xs = prefix_len-le-length (λ y. not (p y)) xs in
    let n : position_or_len p (xs ++ x ∷ []) ≡ position_or_len p xs = position_or_len_push p xs x ∙ rw e refl in
    let lt : position_or_len p xs < length xs = by_order (position_or_len p xs) (length xs) (λ h. h) (λ h. absurd (other h)) (λ h. absurd (omega (arith, le, h))) in
    rw (n, length-append xs (x ∷ []), lt-ltb (position_or_len p xs) (length xs + 1) (omega (arith, lt)), lt-ltb (position_or_len p xs) (length xs) lt) refl

pub position_more_no : {X : Type 0} (p : X → Bool) (xs : List X) (x : X) → p x ≡ false → position p (xs ++ x ∷ []) ≡ position p xs
position_more_no p xs x fails = more-go p xs x fails (eqb (position_or_len p xs) (length xs)) refl
