-- What is true of the differences of any two lists.
use Rattle.std.proofs.Common.{◌≡◌, Bool, true, false, cond, Option, Some, None, List, [], ◌∷◌, ◌++◌, map, refl, sym, ap, ◌∙◌}
use Rattle.std.specs.Prelude.{◌||◌, not}
use Rattle.std.specs.declared.cmp.Ordering.{Ordering}
use Rattle.std.specs.declared.cmp.Ordering.TheVariants.{Less, Equal, Greater}
use Rattle.std.specs.Ordering.{is_eq, match_ordering}
use Rattle.std.specs.List.{filter, find, list_any}
use Rattle.keyed_lists.specs.KeyOrder.{IsKeyOrder, with_key, keys_in_order, keys_of_both}
use Rattle.keyed_lists.specs.Differences.{Both, entry_with, both_with, differ, is_difference, differences, turned, has_key, is_of_key, outcome, entry_after, AreAlike}
use Rattle.keyed_lists.proofs.Inserting.{equal_of}
use Rattle.keyed_lists.proofs.SwappedKeys.{swapped}

module _ {E : Type 0} (same : E → E → Bool) where
  -- ---- a list and itself

  module _ (reflexive : (e : E) → same e e ≡ true) where
    pub no_difference : (o : Option E) → differ same o o ≡ false
    no_difference None = refl
    no_difference (Some e) = ap not (reflexive e)

    none_kept : {K : Type 0} (both : K → Both E) → ((key : K) → is_difference same (both key) ≡ false) → (keys : List K) → filter (is_difference same) (map both keys) ≡ []
    none_kept both none [] = refl
    none_kept both none (key ∷ keys) = rw (none key) (none_kept both none keys)

    pub none_from_itself : {K : Type 0} (cmp : K → K → Ordering) (key_of : E → K) (entries : List E) → differences cmp key_of same entries entries ≡ []
    unfolding differences
    none_from_itself cmp key_of entries =
        none_kept (both_with cmp key_of entries entries) (λ key. no_difference (entry_with cmp key_of entries key)) (keys_of_both cmp (map key_of entries) (map key_of entries))

  -- ---- two lists and the same turned round

  module _ (symmetric : (a b : E) → same a b ≡ same b a) where
    differ_turned : (a b : Option E) → differ same a b ≡ differ same b a
    differ_turned None None = refl
    differ_turned None (Some b) = refl
    differ_turned (Some a) None = refl
    differ_turned (Some a) (Some b) = ap not (symmetric a b)

    kept_turned : {K : Type 0} (first second : K → Option E) (keys : List K)
        → filter (is_difference same) (map (λ key. record { first = second key; second = first key }) keys) ≡ map turned (filter (is_difference same) (map (λ key. record { first = first key; second = second key }) keys))
    kept_turned first second [] = refl
    kept_turned first second (key ∷ keys) = rw (differ_turned (second key) (first key)) (by (differ same (first key) (second key)) (kept_turned first second keys))
      where
        by : (b : Bool) → filter (is_difference same) (map (λ key. record { first = second key; second = first key }) keys) ≡ map turned (filter (is_difference same) (map (λ key. record { first = first key; second = second key }) keys))
            → cond b (record { first = second key; second = first key } ∷ filter (is_difference same) (map (λ key. record { first = second key; second = first key }) keys)) (filter (is_difference same) (map (λ key. record { first = second key; second = first key }) keys))
            ≡ map turned (cond b (record { first = first key; second = second key } ∷ filter (is_difference same) (map (λ key. record { first = first key; second = second key }) keys)) (filter (is_difference same) (map (λ key. record { first = first key; second = second key }) keys)))
        by true rest = ap (λ ds. record { first = second key; second = first key } ∷ ds) rest
        by false rest = rest

    pub differences_turned : {K : Type 0} (cmp : K → K → Ordering) → IsKeyOrder cmp → (key_of : E → K) (first second : List E) → differences cmp key_of same second first ≡ map turned (differences cmp key_of same first second)
    unfolding differences
    differences_turned cmp order key_of first second =
        ap (λ keys. filter (is_difference same) (map (both_with cmp key_of second first) keys)) (swapped cmp order (map key_of second) (map key_of first))
        ∙ kept_turned (entry_with cmp key_of first) (entry_with cmp key_of second) (keys_of_both cmp (map key_of first) (map key_of second))

-- ---- what is there after the differences

or_false : (a b : Bool) → (a || b) ≡ false → (a ≡ false) × (b ≡ false)
or_false true b e = absurd cc
or_false false b e = (refl, e)

or_true_left : (a b : Bool) → a ≡ true → (a || b) ≡ true
or_true_left a b e = rw e refl

or_true_right : (a b : Bool) → b ≡ true → (a || b) ≡ true
or_true_right true b e = refl
or_true_right false b e = e

module _ {K : Type 0} (cmp : K → K → Ordering) (order : IsKeyOrder cmp) (key : K) where
  -- a key is the one
  abbrev pub is_key : K → Bool
  is_key other = is_eq (cmp other key)

  pub same_key : (other : K) → is_key other ≡ true → other ≡ key
  same_key other e = order.same other key (equal_of (cmp other key) e)

  there_with : (k : K) (keys : List K) → list_any is_key (with_key cmp k keys) ≡ (is_key k || list_any is_key keys)
  there_with k [] = refl
  there_with k (other ∷ keys) = by (cmp k other) refl (there_with k keys)
    where
      again : (a b : Bool) → a ≡ b → (b || list_any is_key keys) ≡ (a || (b || list_any is_key keys))
      again true b e = rw (sym e) refl
      again false b e = refl

      past : (a b c : Bool) → (a || (b || c)) ≡ (b || (a || c))
      past true true c = refl
      past true false c = refl
      past false b c = refl

      by : (r : Ordering) → cmp k other ≡ r → list_any is_key (with_key cmp k keys) ≡ (is_key k || list_any is_key keys)
          → list_any is_key (match_ordering r (k ∷ other ∷ keys) (other ∷ keys) (other ∷ with_key cmp k keys)) ≡ (is_key k || (is_key other || list_any is_key keys))
      by Less e more = refl
      by Equal e more = again (is_key k) (is_key other) (ap is_key (order.same k other e))
      by Greater e more = ap (λ b. is_key other || b) more ∙ past (is_key other) (is_key k) (list_any is_key keys)

  there_in_order : (keys : List K) → list_any is_key (keys_in_order cmp keys) ≡ list_any is_key keys
  there_in_order [] = refl
  there_in_order (k ∷ keys) = there_with k (keys_in_order cmp keys) ∙ ap (λ b. is_key k || b) (there_in_order keys)

  there_append : (first second : List K) → list_any is_key (first ++ second) ≡ (list_any is_key first || list_any is_key second)
  there_append [] second = refl
  there_append (k ∷ first) second = by (is_key k) (there_append first second)
    where
      by : (b : Bool) → list_any is_key (first ++ second) ≡ (list_any is_key first || list_any is_key second) → (b || list_any is_key (first ++ second)) ≡ ((b || list_any is_key first) || list_any is_key second)
      by true e = refl
      by false e = e

  module _ {E : Type 0} (key_of : E → K) where
    -- an entry that is found has the key, and its key is among the keys
    found_key : (entries : List E) (e : E) → entry_with cmp key_of entries key ≡ Some e → (is_key (key_of e) ≡ true) × (list_any is_key (map key_of entries) ≡ true)
    found_key [] e found = absurd cc
    found_key (x ∷ entries) e found = by (is_key (key_of x)) refl found (found_key entries e)
      where
        by : (b : Bool) → is_key (key_of x) ≡ b → cond b (Some x) (entry_with cmp key_of entries key) ≡ Some e
            → (entry_with cmp key_of entries key ≡ Some e → (is_key (key_of e) ≡ true) × (list_any is_key (map key_of entries) ≡ true))
            → (is_key (key_of e) ≡ true) × ((is_key (key_of x) || list_any is_key (map key_of entries)) ≡ true)
        by true is h more =
            let same : x ≡ e = cc in
            (ap (λ y. is_key (key_of y)) (sym same) ∙ is, or_true_left (is_key (key_of x)) (list_any is_key (map key_of entries)) is)
        by false is h more = let m = more h in (m.0, or_true_right (is_key (key_of x)) (list_any is_key (map key_of entries)) m.1)

    module _ (same : E → E → Bool) (reflexive : (e : E) → same e e ≡ true) (first second : List E) where
      abbrev both : K → Both E
      both k = both_with cmp key_of first second k

      -- a difference at the key speaks of it, and the key is one of the keys of both
      spoken : (a b : Option E) → entry_with cmp key_of first key ≡ a → entry_with cmp key_of second key ≡ b → differ same a b ≡ true
          → ((has_key cmp key_of key a || has_key cmp key_of key b) ≡ true) × ((list_any is_key (map key_of first) || list_any is_key (map key_of second)) ≡ true)
      spoken None None e f d = absurd cc
      spoken None (Some b) e f d =
          let h = found_key second b f in
          (h.0, or_true_right (list_any is_key (map key_of first)) (list_any is_key (map key_of second)) h.1)
      spoken (Some a) b e f d =
          let h = found_key first a e in
          (or_true_left (is_key (key_of a)) (has_key cmp key_of key b) h.0, or_true_left (list_any is_key (map key_of first)) (list_any is_key (map key_of second)) h.1)

      pub spoken_of : is_difference same (both key) ≡ true → (is_of_key cmp key_of key (both key) ≡ true) × (list_any is_key (keys_of_both cmp (map key_of first) (map key_of second)) ≡ true)
      spoken_of d =
          let h = spoken (entry_with cmp key_of first key) (entry_with cmp key_of second key) refl refl d in
          (h.0, there_in_order (map key_of first ++ map key_of second) ∙ there_append (map key_of first) (map key_of second) ∙ h.1)

module _ {K : Type 0} (cmp : K → K → Ordering) (order : IsKeyOrder cmp) {E : Type 0} (key_of : E → K) (same : E → E → Bool) (reflexive : (e : E) → same e e ≡ true) (first second : List E) (key : K) where
  abbrev both_of : K → Both E
  both_of k = both_with cmp key_of first second k

  abbrev kept : List K → List (Both E)
  kept keys = filter (is_difference same) (map both_of keys)

  abbrev spoken_for : Both E → Bool
  spoken_for = is_of_key cmp key_of key

  -- what two keys find is one entry only where they are the same
  one_key : (k : K) (entries : List E) (o : Option E) → entry_with cmp key_of entries k ≡ o → has_key cmp key_of key o ≡ true → k ≡ key
  one_key k entries None e h = absurd cc
  one_key k entries (Some x) e h =
      let found = found_key cmp order k key_of entries x e in
      sym (same_key cmp order k (key_of x) found.0) ∙ same_key cmp order key (key_of x) h

  either_true : (a b : Bool) → (a || b) ≡ true → (b ≡ false → a ≡ true)
  either_true true b e f = refl
  either_true false b e f = absurd cc

  same_spoken : (k : K) → spoken_for (both_of k) ≡ true → k ≡ key
  same_spoken k e = by (has_key cmp key_of key (entry_with cmp key_of second k)) refl
    where
      by : (b : Bool) → has_key cmp key_of key (entry_with cmp key_of second k) ≡ b → k ≡ key
      by true h = one_key k second (entry_with cmp key_of second k) refl h
      by false h = one_key k first (entry_with cmp key_of first k) refl (either_true (has_key cmp key_of key (entry_with cmp key_of first k)) (has_key cmp key_of key (entry_with cmp key_of second k)) e h)

  -- the difference that is found tells what the second list has
  abbrev Tells : Option (Both E) → Type 0
  Tells None = Unit {0}
  Tells (Some d) = d.second ≡ entry_with cmp key_of second key

  found_tells : (keys : List K) → Tells (find spoken_for (kept keys))
  found_tells [] = tt
  found_tells (k ∷ keys) = by (is_difference same (both_of k)) (found_tells keys)
    where
      at : (b : Bool) → spoken_for (both_of k) ≡ b → Tells (find spoken_for (kept keys)) → Tells (cond b (Some (both_of k)) (find spoken_for (kept keys)))
      at true e rest = ap (entry_with cmp key_of second) (same_spoken k e)
      at false e rest = rest

      by : (b : Bool) → Tells (find spoken_for (kept keys)) → Tells (find spoken_for (cond b (both_of k ∷ kept keys) (kept keys)))
      by true rest = at (spoken_for (both_of k)) refl rest
      by false rest = rest

  -- where there is a difference at the key, one is found
  module _ (differs : is_difference same (both_of key) ≡ true) where
    not_missing : (keys : List K) → list_any (is_key cmp order key) keys ≡ true → find spoken_for (kept keys) ≡ None → ⊥
    not_missing [] there none = absurd cc
    not_missing (k ∷ keys) there none = by (is_key cmp order key k) refl there (is_difference same (both_of k)) refl none (not_missing keys)
      where
        behind : (b : Bool) → list_any (is_key cmp order key) keys ≡ true → cond b (Some (both_of k)) (find spoken_for (kept keys)) ≡ None → (list_any (is_key cmp order key) keys ≡ true → find spoken_for (kept keys) ≡ None → ⊥) → ⊥
        behind true h none more = absurd cc
        behind false h none more = more h none

        by : (b : Bool) → is_key cmp order key k ≡ b → (b || list_any (is_key cmp order key) keys) ≡ true → (d : Bool) → is_difference same (both_of k) ≡ d
            → find spoken_for (cond d (both_of k ∷ kept keys) (kept keys)) ≡ None → (list_any (is_key cmp order key) keys ≡ true → find spoken_for (kept keys) ≡ None → ⊥) → ⊥
        by true e h true f none more =
            let spoken : spoken_for (both_of k) ≡ true = ap (λ k. spoken_for (both_of k)) (same_key cmp order key k e) ∙ (spoken_of cmp order key key_of same reflexive first second differs).0 in
            let some : cond (spoken_for (both_of k)) (Some (both_of k)) (find spoken_for (kept keys)) ≡ Some (both_of k) = rw spoken refl in
            absurd (cc (some, none))
        by true e h false f none more =
            let there : is_difference same (both_of k) ≡ true = ap (λ k. is_difference same (both_of k)) (same_key cmp order key k e) ∙ differs in
            absurd (cc (there, f))
        by false e h true f none more = behind (spoken_for (both_of k)) h none more
        by false e h false f none more = more h none

  -- each key has after the differences what it has in the second list
  pub completed : AreAlike same (entry_after cmp key_of (differences cmp key_of same first second) first key) (entry_with cmp key_of second key)
  unfolding differences
  completed = by (find spoken_for (kept (keys_of_both cmp (map key_of first) (map key_of second)))) refl (found_tells (keys_of_both cmp (map key_of first) (map key_of second)))
    where
      unfound : (d : Bool) → is_difference same (both_of key) ≡ d → find spoken_for (kept (keys_of_both cmp (map key_of first) (map key_of second))) ≡ None → is_difference same (both_of key) ≡ false
      unfound true e none = absurd (not_missing e (keys_of_both cmp (map key_of first) (map key_of second)) (spoken_of cmp order key key_of same reflexive first second e).1 none)
      unfound false e none = e

      by : (o : Option (Both E)) → find spoken_for (kept (keys_of_both cmp (map key_of first) (map key_of second))) ≡ o → Tells o → differ same (outcome (entry_with cmp key_of first key) o) (entry_with cmp key_of second key) ≡ false
      by None e tells = unfound (is_difference same (both_of key)) refl e
      by (Some d) e tells = rw tells (no_difference same reflexive (entry_with cmp key_of second key))
