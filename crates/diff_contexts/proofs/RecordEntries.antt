-- The entries of records, by their numbers.
use Rattle.std.proofs.Common.{◌≡◌, ℕ, zero, suc, ◌<◌, List, [], ◌∷◌, Some, map, length, slice_get, ap}
use Rattle.std.proofs.lemmas.List.{length-map}
use Rattle.std.proofs.lemmas.Option.{same_Some}
use Rattle.diff_entries.specs.Entries.{Entry, entry_at}

module _ {A : Type 0} (f : A → Entry) (xs : List A) where
  pub as_many : length (map f xs) ≡ length xs
  as_many = length-map xs f

entry_is : {A : Type 0} (f : A → Entry) (xs : List A) (n : ℕ) (x : A) → slice_get xs n ≡ Some x → entry_at (map f xs) n ≡ f x
entry_is f [] n x e = absurd cc
entry_is f (y ∷ xs) zero x e = ap f (same_Some y x e)
entry_is f (y ∷ xs) (suc n) x e = entry_is f xs n x e

module _ {A : Type 0} (f : A → Entry) (xs : List A) (n : ℕ) (x : A) (at : slice_get xs n ≡ Some x) where
  pub key_at : (entry_at (map f xs) n).key ≡ (f x).key
  key_at = ap (λ (entry : Entry). entry.key) (entry_is f xs n x at)

  pub parts_at : (entry_at (map f xs) n).parts ≡ (f x).parts
  parts_at = ap (λ (entry : Entry). entry.parts) (entry_is f xs n x at)

  pub statement_at : (entry_at (map f xs) n).statement ≡ (f x).statement
  statement_at = ap (λ (entry : Entry). entry.statement) (entry_is f xs n x at)

  pub head_at : (entry_at (map f xs) n).head ≡ (f x).head
  head_at = ap (λ (entry : Entry). entry.head) (entry_is f xs n x at)
