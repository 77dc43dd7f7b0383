-- Elements that rise by a number, found by halves.
use Rattle.std.proofs.Common.{◌≡◌, ℕ, ◌+◌, ◌-◌, ◌≤◌, Bool, true, false, List, [], ◌∷◌, ◌++◌, length, take, drop, get_or, refl, sym, ap, ◌∙◌, inl, inr, arith, append-nil, length-drop}
use Rattle.std.specs.Prelude.{◌==◌, nat_le, nat_lt}
use Rattle.std.specs.Fn.{Called, ComputesKey}
use Rattle.std.specs.List.{All, AllWithin, filter}
use Rattle.std.specs.List.Sorted.{IsPartitionPoint, IsPartitionedBy, IsSortedByKey}
use Rattle.std.specs.Ordering.{nat_cmp}
use Rattle.std.proofs.lemmas.Bool.{cases_lt, eq-eqb, leb-false, leb-true, ltb-false, ltb-true, ne_eqb}
use Rattle.std.proofs.lemmas.List.{get_or-drop, get_or-take, length-take-le, take-append-drop}
use Rattle.std.proofs.lemmas.List.Elements.{All-head, All-tail, filter-append}
use Rattle.std.proofs.lemmas.List.Sorted.{IsNonDecreasingBy-from_sort, IsPartitionPoint-from_clause, IsPartitionedBy-leb, IsPartitionedBy-ltb}
use denote.Param.Members.{Mut}
use denote.Ref.{Bor}

module _ {X : Type 0} (p : X → Bool) where
  filter_none : (xs : List X) → All (λ x. p x ≡ false) xs → filter p xs ≡ []
  filter_none [] h = refl
  filter_none (x ∷ xs) h = rw (All-head (λ (x : X). p x ≡ false) x xs h) (filter_none xs (All-tail (λ (x : X). p x ≡ false) x xs h))

  filter_all : (xs : List X) → All (λ x. p x ≡ true) xs → filter p xs ≡ xs
  filter_all [] h = refl
  filter_all (x ∷ xs) h = rw (All-head (λ (x : X). p x ≡ true) x xs h) (ap (λ (ys : List X). x ∷ ys) (filter_all xs (All-tail (λ (x : X). p x ≡ true) x xs h)))

  -- what passes a test, where that is a stretch of the list
  filter_stretch : (xs : List X) (first stop : ℕ) → first ≤ stop → stop ≤ length xs → AllWithin (λ x. p x ≡ false) xs 0 first → AllWithin (λ x. p x ≡ true) xs first stop → AllWithin (λ x. p x ≡ false) xs stop (length xs)
      → take (stop - first) (drop first xs) ≡ filter p xs
  filter_stretch xs first stop rise within before there after =
      let count = stop - first in
      let front = take first xs in
      let middle = take count (drop first xs) in
      let back = drop count (drop first xs) in
      let rest = length-drop first xs in
      let front_long = length-take-le first xs (omega (arith, rise, within)) in
      let middle_long = length-take-le count (drop first xs) (omega (arith, rest, within)) in
      let back_long = length-drop count (drop first xs) in
      let whole : front ++ (middle ++ back) ≡ xs = ap (λ (ys : List X). front ++ ys) (take-append-drop count (drop first xs)) ∙ take-append-drop first xs in
      let none : filter p front ≡ [] = filter_none front (λ i d lt. ap p (get_or-take first xs i d (omega (arith, lt, front_long))) ∙ before i d (omega arith) (omega (arith, lt, front_long))) in
      let all : filter p middle ≡ middle =
      filter_all middle (λ i d lt. ap p (get_or-take count (drop first xs) i d (omega (arith, lt, middle_long)) ∙ get_or-drop first xs i d) ∙ there (first + i) d (omega arith) (omega (arith, lt, middle_long, rise))) in
      let past : filter p back ≡ [] =
      filter_none back (λ i d lt. ap p (get_or-drop count (drop first xs) i d ∙ get_or-drop first xs (count + i) d) ∙ after (first + (count + i)) d (omega (arith, rise)) (omega (arith, lt, back_long, rest, rise))) in
      sym (ap (filter p) (sym whole) ∙ filter-append p front (middle ++ back) ∙ ap (λ (ys : List X). ys ++ filter p (middle ++ back)) none ∙ filter-append p middle back ∙ ap (λ (ys : List X). ys ++ filter p back) all ∙ ap (λ (ys : List X). middle ++ ys) past ∙ append-nil middle)

-- Of elements that rise by a number, those that have one stand from a first place up to a last.
pub record AreHalved {X : Type 0} (key : X → ℕ) (xs : List X) (end first stop : ℕ) : Type 0 where
  pub rise : first ≤ stop
  pub found : take (stop - first) (drop first xs) ≡ filter (λ x. end == key x) xs

module _ {X : Type 0} (key : X → ℕ) (xs : List X) (end first stop : ℕ) (low : IsPartitionPoint (λ x. nat_lt (key x) end ≡ true) (λ x. nat_lt (key x) end ≡ false) xs first) (high : IsPartitionPoint (λ x. nat_le (key x) end ≡ true) (λ x. nat_le (key x) end ≡ false) xs stop)
    (first_within : first ≤ length xs) (stop_within : stop ≤ length xs) where
  -- the elements below a number end before the elements that are at most the number do
  below_first : (d : X) → first ≤ stop
  below_first d = elim (cases_lt stop first) [
    | inl lt ↦ absurd (omega (arith, ltb-true (key (get_or xs stop d)) end (low.0 stop d (omega arith) lt), leb-false (key (get_or xs stop d)) end (high.1 stop d (omega arith) (omega (arith, lt, first_within)))))
    | inr le ↦ le
  ]

  between : (d : X) → AreHalved key xs end first stop
  between d =
      let rise = below_first d in record {
        rise = rise;
        found =
            filter_stretch (λ x. end == key x) xs first stop rise stop_within
            (λ k d le lt. ne_eqb end (key (get_or xs k d)) (λ e. omega (arith, e, ltb-true (key (get_or xs k d)) end (low.0 k d le lt))))
            (λ k d le lt. eq-eqb end (key (get_or xs k d)) (omega (arith, ltb-false (key (get_or xs k d)) end (low.1 k d le (omega (arith, lt, stop_within))), leb-true (key (get_or xs k d)) end (high.0 k d (omega arith) lt))))
            (λ k d le lt. ne_eqb end (key (get_or xs k d)) (λ e. omega (arith, e, leb-false (key (get_or xs k d)) end (high.1 k d le lt))));
      }

-- as two partition points find them
pub halved : {X : Type 0} (key : X → ℕ) (xs : List X) (end first stop : ℕ) (d : X) {F G : Type 0} {g : Mut F (Bor X × Unit {0}) Bool} {h : Mut G (Bor X × Unit {0}) Bool} {below : F} {at_most : G} → IsSortedByKey key nat_cmp xs → first ≤ length xs → stop ≤ length xs
    → ((q : X → Bool) → ComputesKey g q below → IsPartitionedBy q xs → IsPartitionPoint (λ y. q y ≡ true) (λ y. q y ≡ false) xs first)
    → ((q : X → Bool) → ComputesKey h q at_most → IsPartitionedBy q xs → IsPartitionPoint (λ y. q y ≡ true) (λ y. q y ≡ false) xs stop)
    → ((a : Bor X × Unit {0}) (r : Bool) (f : F) → Called g below a r f → (r ≡ nat_lt (key a.0.now) end) × (f ≡ below))
    → ((a : Bor X × Unit {0}) (r : Bool) (f : G) → Called h at_most a r f → (r ≡ nat_le (key a.0.now) end) × (f ≡ at_most)) → AreHalved key xs end first stop
halved key xs end first stop d sorted first_within stop_within first_is stop_is tests_low tests_high =
    let up = IsNonDecreasingBy-from_sort key xs sorted in
    between key xs end first stop
    (IsPartitionPoint-from_clause (λ x. nat_lt (key x) end) xs first first_is (IsPartitionedBy-ltb key xs end up) tests_low)
    (IsPartitionPoint-from_clause (λ x. nat_le (key x) end) xs stop stop_is (IsPartitionedBy-leb key xs end up) tests_high)
    first_within stop_within d
