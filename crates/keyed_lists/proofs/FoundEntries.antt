-- The differences of two lists, by the places of their keys.
use Rattle.std.proofs.Common.{◌≡◌, ℕ, ◌+◌, Bool, true, false, cond, Option, Some, None, List, [], ◌∷◌, ◌++◌, length, map, slice_get, refl, sym, ap, ◌∙◌, append_assoc, arith}
use Rattle.std.specs.declared.cmp.Ordering.{Ordering}
use Rattle.std.specs.Ordering.{is_eq}
use Rattle.std.specs.Option.{option_and_then}
use Rattle.std.specs.List.{filter, flat_map, position_from}
use Rattle.std.proofs.lemmas.List.{length_push}
use Rattle.keyed_lists.specs.declared.pairing.Places.{Places}
use Rattle.keyed_lists.specs.KeyOrder.{keys_of_both, place_in, places_of}
use Rattle.keyed_lists.specs.Differences.{Both, entry_with, both_with, is_difference, differences}
use Rattle.keyed_lists.specs.Inner.PlacedEntries.{both_at, differ_at, paired}

behind_front : {E : Type 0} (front : List E) (x : E) (xs : List E) → slice_get (front ++ x ∷ xs) (length front) ≡ Some x
behind_front [] x xs = refl
behind_front (y ∷ front) x xs = behind_front front x xs

module _ {E K : Type 0} (cmp : K → K → Ordering) (key_of : E → K) where
  found_behind : (key : K) (front es : List E) (n : ℕ) → n ≡ length front
      → entry_with cmp key_of es key ≡ option_and_then (slice_get (front ++ es)) (position_from (λ other. is_eq (cmp other key)) n (map key_of es))
  found_behind key front [] n at = refl
  found_behind key front (x ∷ es) n at =
      by (is_eq (cmp (key_of x) key))
      (found_behind key (front ++ x ∷ []) es (n + 1) (omega (arith, at, length_push front x))
      ∙ ap (λ all. option_and_then (slice_get all) (position_from (λ other. is_eq (cmp other key)) (n + 1) (map key_of es))) (append_assoc front (x ∷ []) es))
    where
      by : (b : Bool) → entry_with cmp key_of es key ≡ option_and_then (slice_get (front ++ x ∷ es)) (position_from (λ other. is_eq (cmp other key)) (n + 1) (map key_of es))
          → cond b (Some x) (entry_with cmp key_of es key)
          ≡ option_and_then (slice_get (front ++ x ∷ es)) (cond b (Some n) (position_from (λ other. is_eq (cmp other key)) (n + 1) (map key_of es)))
      by true rest = sym (ap (slice_get (front ++ x ∷ es)) at ∙ behind_front front x es)
      by false rest = rest

  found_at : (es : List E) (key : K) → entry_with cmp key_of es key ≡ option_and_then (slice_get es) (place_in cmp (map key_of es) key)
  found_at es key = found_behind key [] es 0 refl

  both_found : (first second : List E) (keys : List K) → map (both_with cmp key_of first second) keys ≡ map (both_at first second) (map (places_of cmp (map key_of first) (map key_of second)) keys)
  both_found first second [] = refl
  both_found first second (key ∷ keys) = rw (found_at first key, found_at second key, both_found first second keys) refl

filter_mapped : {A B : Type 0} (f : A → B) (p : B → Bool) (xs : List A) → filter p (map f xs) ≡ map f (filter (λ x. p (f x)) xs)
filter_mapped f p [] = refl
filter_mapped f p (x ∷ xs) = by (p (f x)) (filter_mapped f p xs)
  where
    by : (b : Bool) → filter p (map f xs) ≡ map f (filter (λ x. p (f x)) xs) → cond b (f x ∷ filter p (map f xs)) (filter p (map f xs)) ≡ map f (cond b (x ∷ filter (λ x. p (f x)) xs) (filter (λ x. p (f x)) xs))
    by true rest = ap (λ ys. f x ∷ ys) rest
    by false rest = rest

-- the differences are what both lists have at the places where they differ
pub differences_at : {E K : Type 0} (cmp : K → K → Ordering) (key_of : E → K) (same : E → E → Bool) (first second : List E)
    → differences cmp key_of same first second ≡ map (both_at first second) (filter (differ_at same first second) (paired cmp key_of first second))
unfolding differences
differences_at cmp key_of same first second =
    ap (filter (is_difference same)) (both_found cmp key_of first second (keys_of_both cmp (map key_of first) (map key_of second)))
    ∙ filter_mapped (both_at first second) (is_difference same) (paired cmp key_of first second)
