-- Tests of the elements of lists.
use Rattle.std.proofs.Common.{◌≡◌, ◌⊎◌, inl, inr, ℕ, Bool, true, false, List, [], ◌∷◌, refl, sym, subst}
use Rattle.std.specs.Prelude.{◌↔◌, ◌||◌, nat_eq, Contains}
use Rattle.std.specs.List.{list_any}
use Rattle.std.proofs.lemmas.Bool.{eqb-true, eq-eqb}
use Rattle.std.proofs.lemmas.List.Elements.{Contains-append_right, Contains-append_cases}
use Rattle.pol_bitmap.specs.declared.Node.{Node}
use Rattle.pol_bitmap.specs.Nodes.{bits_of, has_bit}
use Rattle.pol_bitmap.proofs.BitLists.{has_bit-from_bits, bits-from_has_bit}
use Rattle.pol_bitmap.proofs.Elements.{contains_nothing, contains_one, contains_first}

pub same_tests : (p q : Bool) → (p ≡ true → q ≡ true) → (q ≡ true → p ≡ true) → p ≡ q
same_tests true q h k = sym (h refl)
same_tests false true h k = k refl
same_tests false false h k = refl

pub or_left : (a b : Bool) → a ≡ true → (a || b) ≡ true
or_left a b e = rw e refl

pub or_right : (a b : Bool) → b ≡ true → (a || b) ≡ true
or_right true b e = refl
or_right false b e = e

pub or_cases : (a b : Bool) → (a || b) ≡ true → (a ≡ true) ⊎ (b ≡ true)
or_cases true b e = inl refl
or_cases false b e = inr e

-- a value that is in a list, by a test
pub any_from_there : (value : ℕ) (xs : List ℕ) → Contains xs value → list_any (nat_eq value) xs ≡ true
any_from_there value [] h = absurd (contains_nothing value h)
any_from_there value (x ∷ xs) h = elim (Contains-append_cases (x ∷ []) xs value h) [
  | inl one ↦ or_left (nat_eq value x) (list_any (nat_eq value) xs) (eq-eqb value x (sym (contains_one value x one)))
  | inr rest ↦ or_right (nat_eq value x) (list_any (nat_eq value) xs) (any_from_there value xs rest)
]

pub there_from_any : (value : ℕ) (xs : List ℕ) → list_any (nat_eq value) xs ≡ true → Contains xs value
there_from_any value [] e = absurd cc
there_from_any value (x ∷ xs) e = elim (or_cases (nat_eq value x) (list_any (nat_eq value) xs) e) [
  | inl here ↦ subst (λ (y : ℕ). Contains (y ∷ xs) value) (eqb-true value x here) (contains_first value xs)
  | inr later ↦ Contains-append_right (x ∷ []) xs value (there_from_any value xs later)
]

-- the set of some values, by tests
pub set_tests : (set : List Node) (values : List ℕ) → ((bit : ℕ) → Contains (bits_of set) bit ↔ Contains values bit) → (value : ℕ) → has_bit set value ≡ list_any (nat_eq value) values
set_tests set values is value = same_tests _ _ (λ e. any_from_there value values ((is value).0 (bits-from_has_bit set value e))) (λ e. has_bit-from_bits set value ((is value).1 (there_from_any value values e)))
