-- Keys that rise strictly, by their ranks.
use Rattle.std.proofs.Common.{◌≡◌, ℕ, ◌+◌, ◌<◌, ◌≤◌, Bool, true, false, cond, Some, None, List, [], ◌∷◌, ◌++◌, length, get_or, slice_get, Err, ltb, zero, suc, subst, inl, inr, ◌⊎◌, refl, sym, ap, ◌∙◌, arith}
use Rattle.std.specs.declared.cmp.Ordering.{Ordering}
use Rattle.std.specs.declared.cmp.Ordering.TheVariants.{Less, Equal, Greater}
use Rattle.std.specs.Ordering.{is_eq, nat_cmp, match_ordering, ordering_index, ordering_reverse}
use Rattle.std.specs.List.{Contains, position_from}
use Rattle.std.specs.Cmp.{IsTotalOrder}
use Rattle.std.specs.List.Sorted.{IsNonDecreasingBy, IsBinarySearchResult}
use Rattle.std.proofs.lemmas.Bool.Decides.{nat_tests}
use borrow.Author.Tests.{ltb-true, ltb-false}
use Rattle.std.specs.BTreeSet.{insert_key}
use Rattle.std.proofs.lemmas.Cmp.{tied_itself, alike_right}
use Rattle.keyed_lists.specs.KeyOrder.{IsKeyOrder, with_key, keys_in_order, place_in}
use Rattle.keyed_lists.proofs.Rising.{IsBelowAll, Rises, in_order_rises}
use Rattle.ranked_keys.specs.Ranks.{with_keys}

module _ {K : Type 0} (cmp : K → K → Ordering) where
  -- a set puts a key at its place
  pub inserted : (key : K) (keys : List K) → insert_key cmp keys key ≡ with_key cmp key keys
  inserted key [] = refl
  inserted key (other ∷ keys) = ap (λ ks. match_ordering (cmp key other) (key ∷ other ∷ keys) (other ∷ keys) (other ∷ ks)) (inserted key keys)

  pub none_added : (keys there : List K) → length keys ≡ 0 → with_keys cmp keys there ≡ there
  none_added [] there none = refl
  none_added (key ∷ keys) there none = absurd (omega arith)

  -- the last key of a list is added first
  added_last : (keys : List K) (key : K) (there : List K) → with_keys cmp (keys ++ key ∷ []) there ≡ with_keys cmp keys (with_key cmp key there)
  added_last [] key there = refl
  added_last (other ∷ keys) key there = ap (with_key cmp other) (added_last keys key there)

  pub added_popped : (keys all : List K) (key : K) (there : List K) → all ≡ keys ++ key ∷ [] → with_keys cmp all there ≡ with_keys cmp keys (insert_key cmp there key)
  added_popped keys all key there is =
      ap (λ ks. with_keys cmp ks there) is ∙ added_last keys key there ∙ ap (with_keys cmp keys) (sym (inserted key there))

  pub added_to_none : (keys : List K) → with_keys cmp keys [] ≡ keys_in_order cmp keys
  added_to_none [] = refl
  added_to_none (key ∷ keys) = ap (with_key cmp key) (added_to_none keys)

  -- ---- keys that rise

  pub below_at : (key : K) (keys : List K) → IsBelowAll cmp key keys → (j : ℕ) (d : K) → j < length keys → cmp key (get_or keys j d) ≡ Less
  below_at key [] h j d lt = absurd (omega arith)
  below_at key (other ∷ keys) h zero d lt = h.0
  below_at key (other ∷ keys) h (suc j) d lt = below_at key keys h.1 j d (omega arith)

  -- of two ranks the lower one is that of the lower key
  pub rises_at : (keys : List K) → Rises cmp keys → (i j : ℕ) (d : K) → i < j → j < length keys → cmp (get_or keys i d) (get_or keys j d) ≡ Less
  rises_at [] h i j d lt inside = absurd (omega arith)
  rises_at (key ∷ keys) h i zero d lt inside = absurd (omega arith)
  rises_at (key ∷ keys) h zero (suc j) d lt inside = below_at key keys h.0 j d (omega arith)
  rises_at (key ∷ keys) h (suc i) (suc j) d lt inside = rises_at keys h.1 i j d (omega arith) (omega arith)

  module _ (order : IsTotalOrder cmp) where
    -- a key is found at the rank where one compares as equal
    found_from : (q : K) (keys : List K) → Rises cmp keys → (n i : ℕ) → i < length keys → ((d : K) → cmp (get_or keys i d) q ≡ Equal)
        → position_from (λ other. is_eq (cmp other q)) n keys ≡ Some (n + i)
    found_from q [] h n i lt same = absurd (omega arith)
    found_from q (key ∷ keys) h n zero lt same =
        let e : n ≡ n + 0 = omega arith in
        ap (λ r. cond (is_eq r) (Some n) (position_from (λ other. is_eq (cmp other q)) (n + 1) keys)) (same key) ∙ ap Some e
    found_from q (key ∷ keys) h n (suc i) lt same =
        let lower : cmp key q ≡ Less = sym (alike_right order (get_or keys i key) q key (same key)) ∙ below_at key keys h.0 i key (omega arith) in
        let e : n + 1 + i ≡ n + suc i = omega arith in
        ap (λ r. cond (is_eq r) (Some n) (position_from (λ other. is_eq (cmp other q)) (n + 1) keys)) lower
        ∙ found_from q keys h.1 (n + 1) i (omega arith) same ∙ ap Some e

    pub found : (q : K) (keys : List K) → Rises cmp keys → (i : ℕ) → i < length keys → ((d : K) → cmp (get_or keys i d) q ≡ Equal) → place_in cmp keys q ≡ Some i
    found q keys h i lt same = let e : 0 + i ≡ i = omega arith in found_from q keys h 0 i lt same ∙ ap Some e

    -- where no key compares as equal none is found
    unfound_from : (q : K) (keys : List K) (n : ℕ) → ((i : ℕ) (d : K) → i < length keys → is_eq (cmp (get_or keys i d) q) ≡ false)
        → position_from (λ other. is_eq (cmp other q)) n keys ≡ None
    unfound_from q [] n apart = refl
    unfound_from q (key ∷ keys) n apart =
        ap (λ b. cond b (Some n) (position_from (λ other. is_eq (cmp other q)) (n + 1) keys)) (apart 0 key (omega arith))
        ∙ unfound_from q keys (n + 1) (λ i d lt. apart (suc i) d (omega arith))

    -- what is compared with a lower key compares no higher
    lower_index : (a b q : K) → cmp a b ≡ Less → ordering_index (cmp a q) ≤ ordering_index (cmp b q)
    lower_index a b q less = by (cmp b q) refl
      where
        top : (r : Ordering) → ordering_index r ≤ 2
        top Less = omega arith
        top Equal = omega arith
        top Greater = omega arith

        by : (r : Ordering) → cmp b q ≡ r → ordering_index (cmp a q) ≤ ordering_index r
        by Less e = rw (order.trans a b q less e) (omega arith)
        by Equal e = rw (sym (alike_right order b q a e) ∙ less) (omega arith)
        by Greater e = top (cmp a q)

    rising_index : (q : K) (keys : List K) → Rises cmp keys → IsNonDecreasingBy (λ y. ordering_index (cmp y q)) keys
    rising_index q keys h i j d le lt = by (ltb i j) refl
      where
        by : (b : Bool) → ltb i j ≡ b → ordering_index (cmp (get_or keys i d) q) ≤ ordering_index (cmp (get_or keys j d) q)
        by true e = lower_index (get_or keys i d) (get_or keys j d) q (rises_at keys h i j d (ltb-true i j e) lt)
        by false e = let same : i ≡ j = omega (arith, ltb-false i j e) in rw same (omega arith)

    pub unfound : (q : K) (keys : List K) → Rises cmp keys → (i : ℕ) → IsBinarySearchResult (λ y. cmp y q) keys (Err i) → place_in cmp keys q ≡ None
    unfound q keys h i searched = unfound_from q keys 0 apart
      where
        apart : (k : ℕ) (d : K) → k < length keys → is_eq (cmp (get_or keys k d) q) ≡ false
        apart k d lt = by (ltb k i) refl
          where
            by : (b : Bool) → ltb k i ≡ b → is_eq (cmp (get_or keys k d) q) ≡ false
            by true e = ap is_eq ((searched (rising_index q keys h)).0 k d (omega arith) (ltb-true k i e))
            by false e = ap is_eq ((searched (rising_index q keys h)).1 k d (ltb-false k i e) lt)

    -- ranks compare as their keys do
    pub compared : (keys : List K) → Rises cmp keys → (i j : ℕ) (d : K) → i < length keys → j < length keys → cmp (get_or keys i d) (get_or keys j d) ≡ nat_cmp i j
    compared keys h i j d within inside = by (ltb i j) (ltb j i) refl refl
      where
        by : (b c : Bool) → ltb i j ≡ b → ltb j i ≡ c → cmp (get_or keys i d) (get_or keys j d) ≡ nat_cmp i j
        by true c e f =
            let lt : i < j = ltb-true i j e in
            rises_at keys h i j d lt inside ∙ grind (arith, nat_tests)
        by false true e f =
            let lt : j < i = ltb-true j i f in
            order.antisymm (get_or keys i d) (get_or keys j d) ∙ ap ordering_reverse (rises_at keys h j i d lt within) ∙ grind (arith, nat_tests)
        by false false e f =
            let same : i ≡ j = omega (arith, ltb-false i j e, ltb-false j i f) in
            ap (λ n. cmp (get_or keys n d) (get_or keys j d)) same ∙ tied_itself order (get_or keys j d) ∙ grind (arith, nat_tests)

-- ---- the keys of a list

module _ {K : Type 0} (cmp : K → K → Ordering) (order : IsKeyOrder cmp) (q : K) where
  -- a key is one of these
  abbrev IsIn : List K → Type 0
  IsIn [] = ⊥
  IsIn (key ∷ keys) = (key ≡ q) ⊎ IsIn keys

  in_with : (keys : List K) → IsIn (with_key cmp q keys)
  in_with [] = inl refl
  in_with (key ∷ keys) = by (cmp q key) refl (in_with keys)
    where
      by : (r : Ordering) → cmp q key ≡ r → IsIn (with_key cmp q keys) → IsIn (match_ordering r (q ∷ key ∷ keys) (key ∷ keys) (key ∷ with_key cmp q keys))
      by Less e more = inl refl
      by Equal e more = inl (sym (order.same q key e))
      by Greater e more = inr more

  kept_with : (other : K) (keys : List K) → IsIn keys → IsIn (with_key cmp other keys)
  kept_with other [] there = absurd there
  kept_with other (key ∷ keys) there = by (cmp other key) there (kept_with other keys)
    where
      behind : (key ≡ q) ⊎ IsIn keys → (IsIn keys → IsIn (with_key cmp other keys)) → (key ≡ q) ⊎ IsIn (with_key cmp other keys)
      behind (inl e) more = inl e
      behind (inr h) more = inr (more h)

      by : (r : Ordering) → (key ≡ q) ⊎ IsIn keys → (IsIn keys → IsIn (with_key cmp other keys)) → IsIn (match_ordering r (other ∷ key ∷ keys) (key ∷ keys) (key ∷ with_key cmp other keys))
      by Less h more = inr h
      by Equal h more = h
      by Greater h more = behind h more

  in_order : (keys : List K) → IsIn keys → IsIn (keys_in_order cmp keys)
  in_order [] there = there
  in_order (key ∷ keys) (inl e) = let P : K → Type 0 = λ k. IsIn (with_key cmp k (keys_in_order cmp keys)) in subst P (sym e) (in_with (keys_in_order cmp keys))
  in_order (key ∷ keys) (inr h) = kept_with key (keys_in_order cmp keys) (in_order keys h)

  is_in : (keys : List K) (k : ℕ) → k < length keys → get_or keys k q ≡ q → IsIn keys
  is_in [] k lt e = absurd (omega arith)
  is_in (key ∷ keys) zero lt e = inl e
  is_in (key ∷ keys) (suc k) lt e = inr (is_in keys k (omega arith) e)

  below_in : (key : K) (keys : List K) → IsBelowAll cmp key keys → IsIn keys → cmp key q ≡ Less
  below_in key [] h there = absurd there
  below_in key (other ∷ keys) h (inl e) = ap (cmp key) (sym e) ∙ h.0
  below_in key (other ∷ keys) h (inr there) = below_in key keys h.1 there

  placed : (keys : List K) → Rises cmp keys → IsIn keys → (n : ℕ) → (i : ℕ) × (position_from (λ other. is_eq (cmp other q)) n keys ≡ Some (n + i)) × (slice_get keys i ≡ Some q)
  placed [] h there n = absurd there
  placed (key ∷ keys) h (inl e) n =
      let at : n ≡ n + 0 = omega arith in
      let same : cmp key q ≡ Equal = ap (cmp key) (sym e) ∙ tied_itself order.total key in
      (0, ap (λ r. cond (is_eq r) (Some n) (position_from (λ other. is_eq (cmp other q)) (n + 1) keys)) same ∙ ap Some at, ap Some e)
  placed (key ∷ keys) h (inr there) n =
      let rest = placed keys h.1 there (n + 1) in
      let at : n + 1 + rest.0 ≡ n + suc rest.0 = omega arith in
      (suc rest.0, ap (λ r. cond (is_eq r) (Some n) (position_from (λ other. is_eq (cmp other q)) (n + 1) keys)) (below_in key keys h.0 there) ∙ rest.1 ∙ ap Some at, rest.2)

  -- a key of the list has a rank, and the key at that rank is it
  pub ranked : (keys : List K) → Contains keys q → (i : ℕ) × (place_in cmp (keys_in_order cmp keys) q ≡ Some i) × (slice_get (keys_in_order cmp keys) i ≡ Some q)
  ranked keys there =
      let found = placed (keys_in_order cmp keys) (in_order_rises cmp order.total keys) (in_order keys (is_in keys there.0 there.1 there.2)) 0 in
      let at : 0 + found.0 ≡ found.0 = omega arith in
      (found.0, found.1 ∙ ap Some at, found.2)

  -- the key at a rank is the one that has it
  key_from : (keys : List K) (n i : ℕ) → position_from (λ other. is_eq (cmp other q)) n keys ≡ Some i → (k : ℕ) × (i ≡ n + k) × (slice_get keys k ≡ Some q)
  key_from [] n i found = absurd cc
  key_from (key ∷ keys) n i found = by (cmp key q) refl found (key_from keys (n + 1) i)
    where
      behind : (position_from (λ other. is_eq (cmp other q)) (n + 1) keys ≡ Some i → (k : ℕ) × (i ≡ n + 1 + k) × (slice_get keys k ≡ Some q)) → position_from (λ other. is_eq (cmp other q)) (n + 1) keys ≡ Some i
          → (k : ℕ) × (i ≡ n + k) × (slice_get (key ∷ keys) k ≡ Some q)
      behind more found =
          let rest = more found in
          let at : i ≡ n + suc rest.0 = omega (arith, rest.1) in
          (suc rest.0, at, rest.2)

      by : (r : Ordering) → cmp key q ≡ r → cond (is_eq r) (Some n) (position_from (λ other. is_eq (cmp other q)) (n + 1) keys) ≡ Some i
          → (position_from (λ other. is_eq (cmp other q)) (n + 1) keys ≡ Some i → (k : ℕ) × (i ≡ n + 1 + k) × (slice_get keys k ≡ Some q))
          → (k : ℕ) × (i ≡ n + k) × (slice_get (key ∷ keys) k ≡ Some q)
      by Less e f more = behind more f
      by Equal e f more =
          let same : n ≡ i = cc in
          let at : i ≡ n + 0 = omega arith in
          (0, at, ap Some (order.same key q e))
      by Greater e f more = behind more f

  pub key_at : (keys : List K) (i : ℕ) → place_in cmp keys q ≡ Some i → slice_get keys i ≡ Some q
  key_at keys i found =
      let at = key_from keys 0 i found in
      let same : i ≡ at.0 = omega (arith, at.1) in
      ap (slice_get keys) same ∙ at.2
