-- A walk goes on by its last step.
use Rattle.std.proofs.Common.{◌≡◌, ◌≢◌, inl, inr, ℕ, ◌+◌, ◌-◌, ◌<◌, ◌≤◌, Bool, true, false, ◌==◌, List, [], ◌∷◌, ◌++◌, length, take, drop, get_or, refl, sym, ap, subst, ◌∙◌, arith, append-nil, take-append-drop, get_or-drop, length-drop}
use Rattle.std.specs.Prelude.{slice_index}
use Rattle.std.specs.List.{Contains}
use Rattle.std.specs.Prelude.{IsTrue, Ok, Err, nat_le}
use Rattle.std.specs.Ordering.{nat_cmp}
use Rattle.std.specs.List.Sorted.{IsStrictlyIncreasing, IsBinarySearchResult}
use Rattle.std.proofs.lemmas.List.Sorted.{searched}
use Rattle.std.proofs.lemmas.Bool.{cases_order, true≢false, leb-true, le-leb}
use Rattle.std.proofs.lemmas.List.{get_or_default}
use Rattle.walk_enum.proofs.Elements.{not_in_nothing, in_cases}
use Rattle.walk_enum.proofs.Ascending.{Ascends, ascends_from_increasing, ascends_parts, increasing_at}
use Rattle.walk_simple.specs.Rooms.{WalkInRoom}
use Rattle.walk_simple.specs.Inner.Tables.{GoesOn, walks_over}
use Rattle.walk_simple.proofs.Walking.{over, over_append, over_none, over_nothing, no_steps}
use Rattle.walk_simple.proofs.Settling.{same_node}
use Rattle.walk_simple.proofs.Going.{apart_nodes, same_test, last_is, goes_same}

-- ---- a node of a row, from a place on

pub has_behind : (row : List ℕ) (x first i : ℕ) → i < length row → get_or row i 0 ≡ x → first ≤ i → Contains (drop first row) x
has_behind row x first i lt at le =
    let place : first + (i - first) ≡ i = omega (arith, le) in
    (i - first, omega (arith, length-drop first row, lt, le), get_or-drop first row (i - first) x ∙ ap (λ (n : ℕ). get_or row n x) place ∙ sym (get_or_default row i 0 x lt) ∙ at)

-- where a node of the rest of a row stands
place_of : (row : List ℕ) (x first : ℕ) → Contains (drop first row) x → (j : ℕ) × (first ≤ j) × (j < length row) × (get_or row j 0 ≡ x)
place_of row x first (k, lt, is) =
    let within : first + k < length row = omega (arith, length-drop first row, lt) in
    (first + k, omega arith, within, get_or_default row (first + k) 0 x within ∙ sym (get_or-drop first row k x) ∙ is)

pub place_from : (row : List ℕ) (x first i : ℕ) → IsStrictlyIncreasing row → i < length row → get_or row i 0 ≡ x → Contains (drop first row) x → first ≤ i
place_from row x first i up lt at has =
    let p = place_of row x first has in
    elim (cases_order i p.0) [
      | inl e ↦ omega (arith, e, p.1)
      | inr (inl less) ↦ absurd (omega (arith, at, p.3, increasing_at row up i p.0 less p.2))
      | inr (inr more) ↦ omega (arith, more, p.1)
    ]

pub none_behind : {P : Type 0} (row : List ℕ) (x first i : ℕ) → ((k : ℕ) → k < i → get_or row k 0 < x) → ((k : ℕ) → i ≤ k → k < length row → x < get_or row k 0) → Contains (drop first row) x → P
none_behind row x first i low high has =
    let p = place_of row x first has in
    elim (cases_order i p.0) [
      | inl e ↦ absurd (omega (arith, p.3, high p.0 (omega (arith, e)) p.2))
      | inr (inl less) ↦ absurd (omega (arith, p.3, high p.0 (omega (arith, less)) p.2))
      | inr (inr more) ↦ absurd (omega (arith, p.3, low p.0 more))
    ]

not_falling : (row : List ℕ) → IsStrictlyIncreasing row → (i j : ℕ) → i ≤ j → j < length row → get_or row i 0 ≤ get_or row j 0
not_falling row up i j le lt = elim (cases_order i j) [
  | inl e ↦ omega (arith, ap (λ (n : ℕ). get_or row n 0) e)
  | inr (inl less) ↦ omega (arith, increasing_at row up i j less lt)
  | inr (inr more) ↦ absurd (omega (arith, le, more))
]

pub found_from : (row : List ℕ) (x first i : ℕ) → IsStrictlyIncreasing row → IsBinarySearchResult (λ y. nat_cmp y x) row (Ok i) → (IsTrue (nat_le first i) → Contains (drop first row) x) × (Contains (drop first row) x → IsTrue (nat_le first i))
found_from row x first i up is =
    let s = searched row x (Ok i) is (not_falling row up) in (
      λ t. has_behind row x first i s.0 s.1 (leb-true first i t),
      λ has. le-leb first i (place_from row x first i up s.0 s.1 has),
    )

pub none_from : (row : List ℕ) (x first i : ℕ) → IsStrictlyIncreasing row → IsBinarySearchResult (λ y. nat_cmp y x) row (Err i) → (IsTrue false → Contains (drop first row) x) × (Contains (drop first row) x → IsTrue false)
none_from row x first i up is =
    let s = searched row x (Err i) is (not_falling row up) in (λ t. absurd (true≢false (sym t)), λ has. none_behind row x first i s.1 s.2 has)

-- ---- over the target

-- with no step left there is no walk over nodes that are not the target
last_none : (next : ℕ → List ℕ) (used : List ℕ) (a b : ℕ) (row : List ℕ) → ((c : ℕ) → Contains row c → c ≢ b) → over next used a b 0 row ≡ []
last_none next used a b row apart = over_nothing next used a b 0 row (λ c has. no_steps next (used ++ a ∷ []) c b (apart_nodes c b (apart c has)))

last_over : (next : ℕ → List ℕ) (used : List ℕ) (a b : ℕ) (row : List ℕ) → Ascends ◌<◌ row → Contains row b → over next used a b 0 row ≡ over next used a b 0 (b ∷ [])
last_over next used a b [] up has = not_in_nothing b has
last_over next used a b (x ∷ row) up has = over_append next used a b 0 (x ∷ []) row ∙ by (x == b) refl (last_over next used a b row up.1)
  where
    by : (t : Bool) → (x == b) ≡ t → (Contains row b → over next used a b 0 row ≡ over next used a b 0 (b ∷ [])) → over next used a b 0 (x ∷ []) ++ over next used a b 0 row ≡ over next used a b 0 (b ∷ [])
    by true e rest =
        let same : x ≡ b = same_node x b e in
        ap (λ (l : List (List ℕ)). over next used a b 0 (x ∷ []) ++ l) (last_none next used a b row (λ c in_row is. omega (arith, up.0 c in_row, is, same)))
        ∙ append-nil (over next used a b 0 (x ∷ [])) ∙ ap (λ (n : ℕ). over next used a b 0 (n ∷ [])) same
    by false e rest =
        ap (λ (l : List (List ℕ)). l ++ over next used a b 0 row) (over_none next used a b 0 x (no_steps next (used ++ a ∷ []) x b e))
        ∙ elim (in_cases x row b has) [
          | inl same ↦ absurd (true≢false (sym (same_test x b same) ∙ e))
          | inr more ↦ rest more
        ]

rest_ascends : (row : List ℕ) (n : ℕ) → IsStrictlyIncreasing row → Ascends ◌<◌ (drop n row)
rest_ascends row n up = (ascends_parts ◌<◌ (take n row) (drop n row) (subst (Ascends ◌<◌) (sym (take-append-drop n row)) (ascends_from_increasing row up))).0

-- ---- in a walk

pub close_none : (next : ℕ → List ℕ) (to first : ℕ) (walk : WalkInRoom) (row : List ℕ) → row ≡ next (slice_index walk.nodes (length walk.nodes - 1)) → (Contains (drop first row) to → IsTrue false)
    → GoesOn (λ used a. walks_over next to 0 (drop first (next a)) used a) walk walk false
close_none next to first walk row is not = record {
  room = refl;
  some = λ e. absurd cc;
  none = λ e used a whole.
      let own : row ≡ next a = is ∙ ap next (last_is walk.nodes used a whole) in
      ap (λ (l : List ℕ). walks_over next to 0 (drop first l) used a) (sym own) ∙ last_none next used a to (drop first row) (λ c has e. true≢false (sym (not (subst (Contains (drop first row)) e has))));
  kept = λ e. refl;
}

pub close_over : (next : ℕ → List ℕ) (to first : ℕ) (old new : WalkInRoom) (found : Bool) (row : List ℕ) → row ≡ next (slice_index old.nodes (length old.nodes - 1)) → IsStrictlyIncreasing row → Contains (drop first row) to
    → GoesOn (λ used a. walks_over next to 0 (to ∷ []) used a) old new found → GoesOn (λ used a. walks_over next to 0 (drop first (next a)) used a) old new found
close_over next to first old new found row is up has g =
    goes_same (λ used a. walks_over next to 0 (to ∷ []) used a) (λ used a. walks_over next to 0 (drop first (next a)) used a) old new found
    (λ used a whole.
    let own : row ≡ next a = is ∙ ap next (last_is old.nodes used a whole) in
    ap (λ (l : List ℕ). walks_over next to 0 (drop first l) used a) (sym own) ∙ last_over next used a to (drop first row) (rest_ascends row first up) has) g
