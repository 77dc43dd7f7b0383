-- The places of keys are within the lists that have them.
use Rattle.std.proofs.Common.{◌≡◌, ℕ, ◌+◌, ◌<◌, Bool, true, false, cond, Option, Some, None, List, [], ◌∷◌, ◌++◌, get_or, length, map, refl, sym, ap, subst, ◌∙◌, arith}
use Rattle.std.specs.declared.cmp.Ordering.{Ordering}
use Rattle.std.specs.Ordering.{is_eq}
use Rattle.std.specs.List.{All, filter, position_from}
use Rattle.std.proofs.lemmas.List.{get_or-map, length-map}
use Rattle.std.proofs.lemmas.List.Elements.{All-cons, All-filter, All-nil}
use Rattle.keyed_lists.specs.declared.Places.{Places}
use Rattle.keyed_lists.specs.Differences.{Both}
use Rattle.keyed_lists.specs.KeyOrder.{keys_of_both, place_in, places_of}
use Rattle.keyed_lists.specs.Inner.PlacedEntries.{both_at, differ_at, paired}
use Rattle.keyed_lists.proofs.FoundEntries.{differences_at}
use Rattle.diff_entries.specs.Entries.{Entry, entry_differences, key_cmp, same_entry}
use Rattle.diff_entries.specs.Changes.{difference_line}
use Rattle.diff_entries.specs.Inner.EntryPlaces.{IsBelow, AreWithin}

position_within : {K : Type 0} (t : K → Bool) (n : ℕ) (keys : List K) → IsBelow (n + length keys) (position_from t n keys)
position_within t n [] = tt
position_within t n (key ∷ keys) = by (t key) (position_within t (n + 1) keys)
  where
    by : (b : Bool) → IsBelow (n + 1 + length keys) (position_from t (n + 1) keys) → IsBelow (n + length (key ∷ keys)) (cond b (Some n) (position_from t (n + 1) keys))
    by true rest = omega arith
    by false rest =
        let e : n + 1 + length keys ≡ n + length (key ∷ keys) = omega arith in
        subst (λ (m : ℕ). IsBelow m (position_from t (n + 1) keys)) e rest

module _ {E K : Type 0} (cmp : K → K → Ordering) (key_of : E → K) where
  place_within : (es : List E) (key : K) → IsBelow (length es) (place_in cmp (map key_of es) key)
  place_within es key =
      let e : 0 + length (map key_of es) ≡ length es = omega (arith, length-map es key_of) in
      subst (λ (m : ℕ). IsBelow m (place_in cmp (map key_of es) key)) e (position_within (λ other. is_eq (cmp other key)) 0 (map key_of es))

  pub each_within : (first second : List E) (keys : List K) → All (AreWithin first second) (map (places_of cmp (map key_of first) (map key_of second)) keys)
  each_within first second [] = All-nil (AreWithin first second)
  each_within first second (key ∷ keys) =
      All-cons (AreWithin first second) (places_of cmp (map key_of first) (map key_of second) key) (map (places_of cmp (map key_of first) (map key_of second)) keys)
      (place_within first key, place_within second key) (each_within first second keys)

-- the places of all keys of the entries of two policies are within their lists
pub all_within : (first second : List Entry) (all : List Places) → all ≡ paired key_cmp (λ e. e.key) first second → All (AreWithin first second) all
all_within first second all are = rw are (each_within key_cmp (λ e. e.key) first second (keys_of_both key_cmp (map (λ e. e.key) first) (map (λ e. e.key) second)))

-- and those that are kept of them
pub kept_within : (first second : List Entry) (all kept : List Places) → all ≡ paired key_cmp (λ e. e.key) first second → kept ≡ filter (differ_at same_entry first second) all → All (AreWithin first second) kept
kept_within first second all kept are is = rw is (All-filter (differ_at same_entry first second) (AreWithin first second) all (all_within first second all are))

pub kept_differences : (first second : List Entry) (all kept : List Places) → all ≡ paired key_cmp (λ e. e.key) first second → kept ≡ filter (differ_at same_entry first second) all
    → map (both_at first second) kept ≡ entry_differences first second
kept_differences first second all kept are is = rw (is, are) (sym (differences_at key_cmp (λ e. e.key) same_entry first second))

-- the line at a place of the list of differences
pub line_at_places : (f : Places → Both Entry) (differences : List (Both Entry)) (places : List Places) (i : ℕ) (at : Places) → map f places ≡ differences → at ≡ get_or places i at
    → i < length (map difference_line differences) → difference_line (f at) ≡ get_or (map difference_line differences) i []
line_at_places f differences places i at are is within =
    let short : i < length places = omega (arith, within, length-map differences difference_line, ap length are, length-map places f) in
    rw (← are) (sym (get_or-map difference_line (map f places) i (f at) [] (omega (arith, short, length-map places f)) ∙ ap difference_line (get_or-map f places i at (f at) short ∙ ap f (sym is))))
