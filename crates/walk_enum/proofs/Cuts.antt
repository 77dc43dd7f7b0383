-- What was found, cut to what leads to the target.
use Rattle.std.proofs.Common.{◌≡◌, ◌⊎◌, inl, inr, ℕ, zero, suc, ◌+◌, ◌-◌, ◌<◌, ◌≤◌, ◌≢◌, ◌||◌, Bool, true, false, not, List, [], ◌∷◌, length, map, set, refl, sym, ap, subst, ◌∙◌, arith, eq-eqb, get_or-set_same, get_or-set_other}
use Rattle.std.specs.Prelude.{slice_index, ◌==◌}
use Rattle.std.specs.List.{Contains, filter, flat_map}
use Rattle.std.specs.List.Sorted.{IsStrictlyIncreasing}
use Rattle.std.proofs.lemmas.List.{get_or_default}
use Rattle.std.proofs.Math.ListN.{length-set}
use Rattle.std.proofs.lemmas.List.Elements.{Contains-get_or}
use Rattle.std.proofs.lemmas.Bool.{cases_order, cases_lt, eqb-true, and_parts, and_from, or_cases, or_left, or_right}
use Rattle.walk_enum.specs.Walks.{walks_along, Goes}
use Rattle.walk_enum.specs.Inner.Turns.{row_of, Leads}
use Rattle.walk_enum.specs.Inner.Exploring.{Explores, IsAtEnd}
use Rattle.walk_enum.specs.Inner.Counting.{AreOrdered}
use Rattle.walk_enum.specs.Inner.Cutting.{is_none, goes_on, leads_in, Cuts}
use Rattle.walk_enum.proofs.Elements.{not_in_nothing, in_filter, from_filter, passes_filter, filter_same, flat_same, flat_kept}
use Rattle.walk_enum.proofs.Ascending.{Ascends, ascends_filter, increasing_from_ascends}
use Rattle.walk_enum.proofs.Along.{by_step, goes_join, goes_on_by, goes_from_some, some_from_goes, some_has, has_some, none_is_empty}
use Rattle.walk_enum.proofs.Exploring.{was_asked, least}

pub leads_goes : (next : ℕ → List ℕ) (to k c : ℕ) → leads_in next to k c ≡ true → Goes next c to k
leads_goes next to k c h = goes_from_some next c to k (back (is_none (walks_along next c to k)) h)
  where
    back : (b : Bool) → not b ≡ true → b ≡ false
    back true h = absurd cc
    back false h = refl

pub goes_leads : (next : ℕ → List ℕ) (to k c : ℕ) → Goes next c to k → leads_in next to k c ≡ true
goes_leads next to k c g = ap not (some_from_goes next c to k g)

tests_same : (p q : Bool) → (p ≡ true → q ≡ true) → (q ≡ true → p ≡ true) → p ≡ q
tests_same true q h k = sym (h refl)
tests_same false true h k = k refl
tests_same false false h k = refl

not_true : (b : Bool) → b ≡ false → not b ≡ true
not_true b e = ap not e

-- what stands in rows after a write
pub row_cases : (rows : List (List ℕ)) (i : ℕ) (row : List ℕ) (b : ℕ) → i < length rows → ((i ≡ b) × (row_of (set rows i row) b ≡ row)) ⊎ (row_of (set rows i row) b ≡ row_of rows b)
row_cases rows i row b lt = elim (cases_order i b) [
  | inl e ↦ inl (e, subst (λ (n : ℕ). row_of (set rows i row) n ≡ row) e (get_or-set_same rows i row [] lt))
  | inr (inl less) ↦ inr (let ne : b ≢ i = omega arith in get_or-set_other rows i b row [] ne)
  | inr (inr more) ↦ inr (let ne : b ≢ i = omega arith in get_or-set_other rows i b row [] ne)
]

module _ (next : ℕ → List ℕ) (nodes from to : ℕ) (depths queue : List ℕ) (rows : List (List ℕ)) (head : ℕ)
    (e : Explores next nodes from to depths queue rows head) (end : IsAtEnd depths queue head to) (found : 1 ≤ slice_index depths to) where
  less_deep : (i : ℕ) → i < head → slice_index depths (slice_index queue i) < slice_index depths to
  less_deep i lt = elim (e.before i lt) [ inl none ↦ absurd (omega (arith, none, found)) | inr less ↦ less ]

  depth_some : (i : ℕ) → i < head → 1 ≤ slice_index depths (slice_index queue i)
  depth_some i lt = let within : i < length queue = omega (arith, lt, e.within) in e.marked (slice_index queue i) (i, within, get_or_default queue i (slice_index queue i) 0 within)

  -- A successor that leads to the target in as many steps as are left lies one deeper.
  pub one_deeper : (a c : ℕ) → 1 ≤ slice_index depths a → slice_index depths a < slice_index depths to → Contains (next a) c → Goes next c to (slice_index depths to - 1 - slice_index depths a) → slice_index depths c ≡ slice_index depths a + 1
  one_deeper a c some less has goes =
      let d = slice_index depths a - 1 in
      let d_is : d + 1 ≡ slice_index depths a = omega (arith, some) in
      let to_c : Goes next from c (slice_index depths a) = subst (Goes next from c) d_is (goes_on_by next from a c d (e.reach a d (omega (arith, some))) has) in
      let c_deep = least next nodes from to depths queue rows head e end (slice_index depths a) c (inr less) to_c in
      let f = slice_index depths c - 1 in
      let left = slice_index depths to - 1 - slice_index depths a in
      let through : Goes next from to (f + left) = goes_join next from c to f left (f + left) (e.reach c f (omega (arith, c_deep.0))) goes refl in
      elim (cases_lt (f + left) (slice_index depths to)) [
        | inl short ↦ omega (arith, c_deep.0, c_deep.1, some, less, (least next nodes from to depths queue rows head e end (f + left) to (inr short) through).1)
        | inr long ↦ omega (arith, c_deep.0, c_deep.1, some, less, long)
      ]

  module _ (kept : List (List ℕ)) (q : ℕ) (lt : q < head) (cuts : Cuts next to depths queue kept head (suc q)) where
    abbrev a : ℕ
    a = slice_index queue q

    abbrev left : ℕ
    left = slice_index depths to - 1 - slice_index depths a

    from_test : (c : ℕ) → Contains (next a) c → goes_on depths kept to (slice_index depths a + 1) c ≡ true → Goes next c to left
    from_test c has test =
        let parts = and_parts (slice_index depths c == slice_index depths a + 1) ((c == to) || not (is_none (row_of kept c))) test in
        let deep : slice_index depths c ≡ slice_index depths a + 1 = eqb-true (slice_index depths c) (slice_index depths a + 1) parts.0 in
        elim (or_cases (c == to) (not (is_none (row_of kept c))) parts.1) [
          | inl same ↦
              let is : c ≡ to = eqb-true c to same in
              let no_step : 0 ≡ left = omega (arith, ap (slice_index depths) is, deep) in
              subst (Goes next c to) no_step is
          | inr some ↦ elim (cuts.none c) [
            | inl empty ↦ absurd (nothing_there (row_of kept c) empty some)
            | inr (i, le, within, is) ↦
                let row : row_of kept c ≡ filter (leads_in next to (slice_index depths to - 1 - slice_index depths c)) (next c) =
                subst (λ (n : ℕ). row_of kept n ≡ filter (leads_in next to (slice_index depths to - 1 - slice_index depths n)) (next n)) is (cuts.done i le within) in
                let one = some_has (row_of kept c) (is_some (row_of kept c) some) in
                let there : Contains (filter (leads_in next to (slice_index depths to - 1 - slice_index depths c)) (next c)) one.0 = subst (λ (l : List ℕ). Contains l one.0) row one.1 in
                let goes : Goes next one.0 to (slice_index depths to - 1 - slice_index depths c) = leads_goes next to (slice_index depths to - 1 - slice_index depths c) one.0 (passes_filter (leads_in next to (slice_index depths to - 1 - slice_index depths c)) (next c) one.0 there) in
                let steps : suc (slice_index depths to - 1 - slice_index depths c) ≡ left = omega (arith, deep, ap (slice_index depths) is, less_deep i within) in
                subst (Goes next c to) steps (one.0, from_filter (leads_in next to (slice_index depths to - 1 - slice_index depths c)) (next c) one.0 there, goes)
          ]
        ]
      where
        nothing_there : (l : List ℕ) → l ≡ [] → not (is_none l) ≡ true → ⊥
        nothing_there [] e h = absurd cc
        nothing_there (x ∷ l) e h = absurd cc

        is_some : (l : List ℕ) → not (is_none l) ≡ true → is_none l ≡ false
        is_some [] h = absurd cc
        is_some (x ∷ l) h = refl

    -- a successor that goes on has successors that do
    row_there : (c k : ℕ) → slice_index depths c ≡ slice_index depths a + 1 → left ≡ suc k → Goes next c to (suc k) → not (is_none (row_of kept c)) ≡ true
    row_there c k deep is (d, has, goes) =
        let less : slice_index depths c < slice_index depths to = omega (arith, deep, is) in
        let p = was_asked next nodes from to depths queue rows head e end c (omega (arith, deep)) (inr less) in
        let later : suc q ≤ p.0 = elim (cases_lt q p.0) [
          | inl less ↦ less
          | inr le ↦ absurd (omega (arith, ap (slice_index depths) p.2, deep, e.ordered p.0 q le (omega (arith, lt, e.within))))
        ] in
        let row : row_of kept c ≡ filter (leads_in next to (slice_index depths to - 1 - slice_index depths c)) (next c) =
        subst (λ (n : ℕ). row_of kept n ≡ filter (leads_in next to (slice_index depths to - 1 - slice_index depths n)) (next n)) p.2 (cuts.done p.0 later p.1) in
        let steps : k ≡ slice_index depths to - 1 - slice_index depths c = omega (arith, deep, is) in
        let passes : leads_in next to (slice_index depths to - 1 - slice_index depths c) d ≡ true = goes_leads next to (slice_index depths to - 1 - slice_index depths c) d (subst (Goes next d to) steps goes) in
        not_true (is_none (row_of kept c)) (has_some (row_of kept c) d (subst (λ (l : List ℕ). Contains l d) (sym row) (in_filter (leads_in next to (slice_index depths to - 1 - slice_index depths c)) (next c) d passes has)))

    to_test : (c : ℕ) → Contains (next a) c → Goes next c to left → goes_on depths kept to (slice_index depths a + 1) c ≡ true
    to_test c has goes =
        let deep : slice_index depths c ≡ slice_index depths a + 1 = one_deeper a c (depth_some q lt) (less_deep q lt) has goes in
        and_from (slice_index depths c == slice_index depths a + 1) ((c == to) || not (is_none (row_of kept c))) (eq-eqb (slice_index depths c) (slice_index depths a + 1) deep) (by left refl goes deep)
      where
        by : (k : ℕ) → left ≡ k → Goes next c to k → slice_index depths c ≡ slice_index depths a + 1 → ((c == to) || not (is_none (row_of kept c))) ≡ true
        by zero is goes deep = or_left (c == to) (not (is_none (row_of kept c))) (eq-eqb c to goes)
        by (suc k) is goes deep = or_right (c == to) (not (is_none (row_of kept c))) (row_there c k deep is goes)

    pub cut_is : filter (goes_on depths kept to (slice_index depths a + 1)) (next a) ≡ filter (leads_in next to left) (next a)
    cut_is = filter_same (goes_on depths kept to (slice_index depths a + 1)) (leads_in next to left) (next a) λ c has.
        tests_same (goes_on depths kept to (slice_index depths a + 1) c) (leads_in next to left c) (λ t. goes_leads next to left c (from_test c has t)) (λ t. to_test c has (leads_goes next to left c t))

    abbrev row : List ℕ
    row = filter (goes_on depths kept to (slice_index depths a + 1)) (next a)

    get_same : a < length kept → (i : ℕ) → q ≡ i → row_of (set kept a row) (slice_index queue i) ≡ row
    get_same within i here = ap (λ (n : ℕ). row_of (set kept a row) (slice_index queue n)) (sym here) ∙ get_or-set_same kept a row [] within

    pub cuts_more : a < length kept → Cuts next to depths queue (set kept a (filter (goes_on depths kept to (slice_index depths a + 1)) (next a))) head q
    cuts_more within = record {
      long = length-set kept a row ∙ cuts.long;
      done = λ i le in_head. elim (row_cases kept a row (slice_index queue i) within) [
        | inl same ↦ same.1 ∙ cut_is ∙ ap (λ (n : ℕ). filter (leads_in next to (slice_index depths to - 1 - slice_index depths n)) (next n)) same.0
        | inr other ↦ elim (cases_order q i) [
          | inl here ↦ get_same within i here ∙ cut_is ∙ ap (λ (n : ℕ). filter (leads_in next to (slice_index depths to - 1 - slice_index depths (slice_index queue n))) (next (slice_index queue n))) here
          | inr (inl less) ↦ other ∙ cuts.done i less in_head
          | inr (inr more) ↦ absurd (omega (arith, le, more))
        ]
      ];
      none = λ b. elim (row_cases kept a row b within) [
        | inl same ↦ inr (q, omega arith, lt, same.0)
        | inr other ↦ elim (cuts.none b) [ inl empty ↦ inl (other ∙ empty) | inr (i, le, in_head, is) ↦ inr (i, omega (arith, le), in_head, is) ]
      ];
    }

  -- ---- all rows are cut

  module _ (kept : List (List ℕ)) (cuts : Cuts next to depths queue kept head 0) where
    row_is : (a : ℕ) → 1 ≤ slice_index depths a → slice_index depths a < slice_index depths to → row_of kept a ≡ filter (leads_in next to (slice_index depths to - 1 - slice_index depths a)) (next a)
    row_is a some less =
        let p = was_asked next nodes from to depths queue rows head e end a some (inr less) in
        subst (λ (n : ℕ). row_of kept n ≡ filter (leads_in next to (slice_index depths to - 1 - slice_index depths n)) (next n)) p.2 (cuts.done p.0 (omega arith) p.1)

    pub rows_increase : ((c : ℕ) → Ascends ◌<◌ (next c)) → (a : ℕ) → IsStrictlyIncreasing (row_of kept a)
    rows_increase up a = elim (cuts.none a) [
      | inl empty ↦ subst IsStrictlyIncreasing (sym empty) (increasing_from_ascends [] tt)
      | inr (i, le, within, is) ↦ subst (λ (n : ℕ). IsStrictlyIncreasing (row_of kept n)) is
          (subst IsStrictlyIncreasing (sym (cuts.done i le within)) (increasing_from_ascends _ (ascends_filter (leads_in next to (slice_index depths to - 1 - slice_index depths (slice_index queue i))) (next (slice_index queue i)) (up (slice_index queue i)))))
    ]

    -- a successor that is kept was found later
    row_later : (i j c : ℕ) → i < length queue → j < head → Contains (row_of kept (slice_index queue i)) c → slice_index queue j ≡ c → i < j
    row_later i j c within in_head has at = elim (cuts.none (slice_index queue i)) [
      | inl empty ↦ not_in_nothing c (subst (λ (l : List ℕ). Contains l c) empty has)
      | inr (p, le, in_p, is) ↦
          let a = slice_index queue p in
          let left = slice_index depths to - 1 - slice_index depths a in
          let there : Contains (filter (leads_in next to left) (next a)) c = subst (λ (l : List ℕ). Contains l c) (ap (row_of kept) (sym is) ∙ cuts.done p le in_p) has in
          let goes : Goes next c to left = leads_goes next to left c (passes_filter (leads_in next to left) (next a) c there) in
          let deep = one_deeper a c (depth_some p in_p) (less_deep p in_p) (from_filter (leads_in next to left) (next a) c there) goes in
          elim (cases_lt i j) [
            | inl less ↦ less
            | inr back ↦ absurd (omega (arith, deep, ap (slice_index depths) at, ap (slice_index depths) is, e.ordered j i back within))
          ]
    ]

    -- the nodes that were found stand before their successors that are kept
    pub rows_ordered : AreOrdered kept queue to
    rows_ordered = record {
      listed = λ a. elim (cuts.none a) [ inl empty ↦ inl empty | inr (i, le, in_head, is) ↦ inr (i, omega (arith, in_head, e.within), is) ];
      later = λ i c within has. elim (cuts.none c) [ inl empty ↦ inl empty | inr (j, le, in_head, is) ↦ inr (j, row_later i j c within in_head has is, omega (arith, in_head, e.within), is) ];
      ends = elim (cuts.none to) [ inl empty ↦ empty | inr (i, le, in_head, is) ↦ absurd (omega (arith, ap (slice_index depths) is, less_deep i in_head)) ];
      target = omega (arith, (e.range to (e.listed to found)).1, e.size, cuts.long);
      within = λ i lt. omega (arith, (e.range (slice_index queue i) (Contains-get_or queue i 0 lt)).1, e.size, cuts.long);
    }

    -- the successors kept of a node, with k + 1 steps left
    row_with : (a k : ℕ) → 1 ≤ slice_index depths a → slice_index depths a + suc k ≡ slice_index depths to → row_of kept a ≡ filter (leads_in next to k) (next a)
    row_with a k some sum =
        let is : slice_index depths to - 1 - slice_index depths a ≡ k = omega (arith, sum) in
        row_is a some (omega (arith, sum)) ∙ ap (λ (n : ℕ). filter (leads_in next to n) (next a)) is

    deeper_with : (a k c : ℕ) → 1 ≤ slice_index depths a → slice_index depths a + suc k ≡ slice_index depths to → Contains (next a) c → Goes next c to k → slice_index depths c + k ≡ slice_index depths to
    deeper_with a k c some sum has goes =
        let is : k ≡ slice_index depths to - 1 - slice_index depths a = omega (arith, sum) in
        omega (arith, sum, one_deeper a c some (omega (arith, sum)) has (subst (Goes next c to) is goes))

    pub walks_same : (k a : ℕ) → 1 ≤ slice_index depths a → slice_index depths a + k ≡ slice_index depths to → walks_along (row_of kept) a to k ≡ walks_along next a to k
    walks_same zero a some sum = refl
    walks_same (suc k) a some sum =
        ap (flat_map (by_step (row_of kept) a to k)) (row_with a k some sum)
        ∙ flat_same (by_step (row_of kept) a to k) (by_step next a to k) (filter (leads_in next to k) (next a)) (λ c has.
        let goes : Goes next c to k = leads_goes next to k c (passes_filter (leads_in next to k) (next a) c has) in
        let sum_c : slice_index depths c + k ≡ slice_index depths to = deeper_with a k c some sum (from_filter (leads_in next to k) (next a) c has) goes in
        ap (map (λ (w : List ℕ). a ∷ w)) (walks_same k c (omega (arith, sum_c, sum, some)) sum_c))
        ∙ flat_kept (by_step next a to k) (leads_in next to k) (next a) (λ c fails. ap (map (λ (w : List ℕ). a ∷ w)) (none_is_empty (walks_along next c to k) (double (is_none (walks_along next c to k)) fails)))
      where
        double : (b : Bool) → not b ≡ false → b ≡ true
        double true h = refl
        double false h = absurd cc

    pub rows_lead : (k a : ℕ) → 1 ≤ slice_index depths a → slice_index depths a + k ≡ slice_index depths to → Goes next a to k → Leads (row_of kept) to a k
    rows_lead zero a some sum goes = goes
    rows_lead (suc k) a some sum (c, has, goes) =
        let row = row_with a k some sum in
        let there : Contains (row_of kept a) c = subst (λ (l : List ℕ). Contains l c) (sym row) (in_filter (leads_in next to k) (next a) c (goes_leads next to k c goes) has) in (
          omega (arith, there.1),
          λ d in_row.
              let in_kept : Contains (filter (leads_in next to k) (next a)) d = subst (λ (l : List ℕ). Contains l d) row in_row in
              let on : Goes next d to k = leads_goes next to k d (passes_filter (leads_in next to k) (next a) d in_kept) in
              let sum_d : slice_index depths d + k ≡ slice_index depths to = deeper_with a k d some sum (from_filter (leads_in next to k) (next a) d in_kept) on in
              rows_lead k d (omega (arith, sum_d, sum, some)) sum_d on,
        )
