-- Rows of nodes: one node after another, and the successors of a node.
use Rattle.std.proofs.Common.{◌≡◌, inl, inr, ℕ, suc, ◌+◌, ◌<◌, ◌≤◌, Bool, true, List, [], ◌∷◌, ◌++◌, length, get_or, take, drop, sym, ap, subst, ◌∙◌, arith, drop-cons}
use Rattle.std.specs.List.{All, Contains, range_with_len}
use Rattle.std.specs.List.Sorted.{IsStrictlyIncreasing, IsNonDecreasing}
use Rattle.std.proofs.lemmas.Bool.{cases_order}
use Rattle.std.proofs.lemmas.List.{take-append-drop, drop_all, get_or_default}
use Rattle.std.proofs.lemmas.List.Elements.{All-weaker, All-contains_itself}
use Rattle.walk_enum.specs.Walks.{successors_of, AreSuccessors}
use Rattle.walk_enum.specs.Inner.Turns.{Follows, IsLast}
use Rattle.walk_enum.proofs.Elements.{in_filter, from_filter, in_range, range_high, passes_filter}
use Rattle.walk_enum.proofs.Ascending.{Ascends, increasing_at, same_numbers, ascends_filter, ascends_range}

-- ---- one node after another

-- the place where a row that rises has gone past a node is the one after the node's own
place_after : (row : List ℕ) (x p : ℕ) → IsStrictlyIncreasing row → Contains row x → p ≤ length row → ((k : ℕ) → k < p → get_or row k 0 ≤ x) → ((k : ℕ) → p ≤ k → k < length row → x < get_or row k 0)
    → (q : ℕ) × (p ≡ suc q) × (q < length row) × (get_or row q 0 ≡ x)
place_after row x p up (k, lt, is) bound low high =
    let at : get_or row k 0 ≡ x = get_or_default row k 0 x lt ∙ is in
    elim (cases_order p (suc k)) [
      | inl e ↦ (k, e, lt, at)
      | inr (inl less) ↦ absurd (omega (arith, at, high k (omega (arith, less)) lt))
      | inr (inr more) ↦ absurd (omega (arith, at, low (suc k) more, increasing_at row up k (suc k) (omega arith) (omega (arith, more, bound))))
    ]

pub follows_after : (row : List ℕ) (x p : ℕ) → IsStrictlyIncreasing row → Contains row x → p < length row → ((k : ℕ) → k < p → get_or row k 0 ≤ x) → ((k : ℕ) → p ≤ k → k < length row → x < get_or row k 0)
    → Follows row x (get_or row p 0)
follows_after row x p up has within low high =
    let r = place_after row x p up has (omega (arith, within)) low high in
    let q = r.0 in
    let is : p ≡ suc q = r.1 in
    let lt : q < length row = r.2 in
    let at : get_or row q 0 ≡ x = r.3 in
    let more : suc q < length row = omega (arith, within, is) in
    record {
      front = take q row;
      back = drop (suc (suc q)) row;
      is = sym (take-append-drop q row) ∙ ap (λ (l : List ℕ). take q row ++ l) (drop-cons row q 0 lt ∙ ap (λ (l : List ℕ). get_or row q 0 ∷ l) (drop-cons row (suc q) 0 more))
          ∙ ap (λ (v : ℕ). take q row ++ v ∷ get_or row (suc q) 0 ∷ drop (suc (suc q)) row) at ∙ ap (λ (n : ℕ). take q row ++ x ∷ get_or row n 0 ∷ drop (suc (suc q)) row) (sym is);
    }

pub ends_after : (row : List ℕ) (x p : ℕ) → IsStrictlyIncreasing row → Contains row x → p ≡ length row → ((k : ℕ) → k < p → get_or row k 0 ≤ x) → ((k : ℕ) → p ≤ k → k < length row → x < get_or row k 0)
    → IsLast row x
ends_after row x p up has whole low high =
    let r = place_after row x p up has (omega (arith, whole)) low high in
    let q = r.0 in
    let is : p ≡ suc q = r.1 in
    let lt : q < length row = r.2 in
    let at : get_or row q 0 ≡ x = r.3 in
    let past : drop (suc q) row ≡ [] = drop_all (suc q) row (omega (arith, is, whole)) in
    record {
      front = take q row;
      is = sym (take-append-drop q row) ∙ ap (λ (l : List ℕ). take q row ++ l) (drop-cons row q 0 lt ∙ ap (λ (l : List ℕ). get_or row q 0 ∷ l) past) ∙ ap (λ (v : ℕ). take q row ++ v ∷ []) at;
    }

pub increasing_not_falling : (row : List ℕ) → IsStrictlyIncreasing row → IsNonDecreasing row
increasing_not_falling row up i j d le lt = elim (cases_order i j) [
  | inl e ↦ subst (λ (n : ℕ). get_or row i d ≤ get_or row n d) e (omega arith)
  | inr (inl less) ↦
      let a : get_or row i d ≡ get_or row i 0 = get_or_default row i d 0 (omega (arith, less, lt)) in
      let b : get_or row j d ≡ get_or row j 0 = get_or_default row j d 0 lt in
      omega (arith, a, b, increasing_at row up i j less lt)
  | inr (inr more) ↦ absurd (omega (arith, more, le))
]

-- ---- the nodes that a node has an edge to

pub ends_are : (edge : ℕ → ℕ → Bool) (nodes a : ℕ) (found : List ℕ) → Ascends ◌<◌ found → AreSuccessors edge a found → ((b : ℕ) → edge a b ≡ true → (1 ≤ b) × (b ≤ nodes)) → found ≡ successors_of edge nodes a
ends_are edge nodes a found up are between =
    same_numbers found (successors_of edge nodes a) up (ascends_filter (edge a) (range_with_len 1 nodes) (ascends_range 1 nodes))
    (λ b has. let e = (are.each b).0 has in let r = between b e in in_filter (edge a) (range_with_len 1 nodes) b e (in_range nodes b r.0 r.1))
    (λ b has. (are.each b).1 (passes_filter (edge a) (range_with_len 1 nodes) b has))

pub ends_fit : (edge : ℕ → ℕ → Bool) (nodes a n : ℕ) → n ≡ nodes + 1 → All (λ b. b < n) (successors_of edge nodes a)
ends_fit edge nodes a n is =
    All-weaker (Contains (successors_of edge nodes a)) (λ (b : ℕ). b < n) (λ b has. omega (arith, is, (range_high 1 nodes b (from_filter (edge a) (range_with_len 1 nodes) b has)).1)) (successors_of edge nodes a) (All-contains_itself (successors_of edge nodes a))

pub ends_fit_at : (edge : ℕ → ℕ → Bool) (nodes a b : ℕ) → Contains (successors_of edge nodes a) b → (1 ≤ b) × (b ≤ nodes)
ends_fit_at edge nodes a b has = let r = range_high 1 nodes b (from_filter (edge a) (range_with_len 1 nodes) b has) in (r.0, omega (arith, r.1))
