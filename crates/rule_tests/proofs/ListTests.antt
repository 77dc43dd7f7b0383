-- Tests of lists and sets.
use Rattle.std.proofs.Common.{◌≡◌, inl, inr, ℕ, ◌+◌, ◌≤◌, Bool, true, false, Some, List, [], ◌∷◌, length, take, slice_get, refl, sym, ap, subst, ◌∙◌, arith}
use Rattle.std.specs.Prelude.{◌↔◌, ◌&&◌, IsTrue, Contains}
use Rattle.std.specs.List.{list_any, list_all}
use Rattle.std.proofs.lemmas.List.{take_all}
use Rattle.std.proofs.lemmas.Option.{slice_get_within, get_or_from_slice_get}
use Rattle.std.proofs.lemmas.List.Folds.{Any-from_list_any, list_any_at, list_any_more}
use Rattle.pol_bitmap.specs.declared.Node.{Node}
use Rattle.pol_bitmap.specs.Nodes.{bits_of, has_bit}
use Rattle.std.proofs.lemmas.List.Elements.{Contains-append_right, Contains-append_cases}
use Rattle.pol_bitmap.proofs.Elements.{contains_one, contains_first}
use Rattle.pol_bitmap.proofs.BitLists.{has_bit-from_bits, bits-from_has_bit}

pub same_tests : (p q : Bool) → (p ≡ true → q ≡ true) → (q ≡ true → p ≡ true) → p ≡ q
same_tests true q h k = sym (h refl)
same_tests false true h k = k refl
same_tests false false h k = refl

pub and_both : (a b : Bool) → (a && b) ≡ true → (a ≡ true) × (b ≡ true)
and_both true b e = (refl, e)
and_both false b e = absurd cc

pub and_from : (a b : Bool) → a ≡ true → b ≡ true → (a && b) ≡ true
and_from a b e f = rw e f

-- what a set answers is the test of its nodes
pub has_is : (r : Bool) (ns : List Node) (bit : ℕ) → IsTrue r ↔ Contains (bits_of ns) bit → r ≡ has_bit ns bit
has_is r ns bit h = same_tests r (has_bit ns bit) (λ t. has_bit-from_bits ns bit (h.0 t)) (λ t. h.1 (bits-from_has_bit ns bit t))

-- an element that passes
pub any_from : {X : Type 0} (p : X → Bool) (xs : List X) (x : X) → Contains xs x → p x ≡ true → list_any p xs ≡ true
any_from p xs x there e = list_any_at p xs there.0 x there.1 (ap p there.2 ∙ e)

pub record Passing {X : Type 0} (p : X → Bool) (xs : List X) : Type 0 where
  pub one : X
  pub there : Contains xs one
  pub passes : p one ≡ true

pub any_to : {X : Type 0} (p : X → Bool) (xs : List X) → list_any p xs ≡ true → Passing p xs
any_to p xs e = let h = Any-from_list_any p xs e in record { one = h.1; there = (h.0, h.2, h.3); passes = h.4 }

-- a test that no element passes
pub none_passes : {X : Type 0} (xs : List X) → list_any (λ (x : X). false) xs ≡ false
none_passes [] = refl
none_passes (x ∷ xs) = none_passes xs

-- all elements pass
pub all_at : {X : Type 0} (p : X → Bool) (xs : List X) → list_all p xs ≡ true → (x : X) → Contains xs x → p x ≡ true
all_at p [] e x there = absurd (omega (arith, there.1))
all_at {X} p (y ∷ ys) e x there = elim (Contains-append_cases (y ∷ []) ys x there) [
  | inl one ↦ let P : X → Type 0 = λ z. p z ≡ true in subst P (contains_one x y one) (and_both (p y) (list_all p ys) e).0
  | inr rest ↦ all_at p ys (and_both (p y) (list_all p ys) e).1 x rest
]

pub all_from : {X : Type 0} (p : X → Bool) (xs : List X) → ((x : X) → Contains xs x → p x ≡ true) → list_all p xs ≡ true
all_from p [] h = refl
all_from p (y ∷ ys) h = and_from (p y) (list_all p ys) (h y (contains_first y ys)) (all_from p ys (λ x there. h x (Contains-append_right (y ∷ []) ys x there)))

-- ---- the first elements of a list

pub none_more : {X : Type 0} (p : X → Bool) (xs : List X) (i : ℕ) (x : X) → slice_get xs i ≡ Some x → p x ≡ false → list_any p (take i xs) ≡ false → list_any p (take (i + 1) xs) ≡ false
none_more p xs i x at e none = list_any_more p xs i x (slice_get_within xs i x at) ∙ rw (none, get_or_from_slice_get xs i x x at) e

pub one_at : {X : Type 0} (p : X → Bool) (xs : List X) (i : ℕ) (x : X) → slice_get xs i ≡ Some x → p x ≡ true → list_any p xs ≡ true
one_at p xs i x at e = list_any_at p xs i x (slice_get_within xs i x at) (ap p (get_or_from_slice_get xs i x x at) ∙ e)

pub none_all : {X : Type 0} (p : X → Bool) (xs : List X) (i : ℕ) → length xs ≤ i → list_any p (take i xs) ≡ false → list_any p xs ≡ false
none_all {X} p xs i past none = ap (λ (l : List X). list_any p l) (sym (take_all i xs past)) ∙ none
