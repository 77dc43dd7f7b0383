-- The items of a list that are left, and the next of them.
use Rattle.std.proofs.Common.{◌≡◌, ℕ, zero, suc, ◌+◌, Some, List, [], ◌∷◌, drop, add-one}
use Rattle.std.specs.Prelude.{slice_get}

dropped_suc : {A : Type 0} (xs : List A) (i : ℕ) (x : A) → slice_get xs i ≡ Some x → drop i xs ≡ x ∷ drop (suc i) xs
dropped_suc [] i x e = absurd cc
dropped_suc (y ∷ ys) zero x e = cc
dropped_suc (y ∷ ys) (suc i) x e = dropped_suc ys i x e

-- the items that are left, by the next of them
pub dropped : {A : Type 0} (xs : List A) (i : ℕ) (x : A) → slice_get xs i ≡ Some x → drop i xs ≡ x ∷ drop (i + 1) xs
dropped xs i x e = rw add-one (dropped_suc xs i x e)
