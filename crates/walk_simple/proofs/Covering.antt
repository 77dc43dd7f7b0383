-- Rows that have the successors of all nodes that are reached in time.
use Rattle.std.proofs.Common.{◌≡◌, inl, inr, ℕ, zero, suc, ◌+◌, ◌<◌, ◌≤◌, cond, ◌==◌, List, [], ◌∷◌, ◌++◌, map, refl, sym, ap, subst, ◌∙◌, arith}
use Rattle.std.specs.List.{filter}
use Rattle.std.specs.List.Sorted.{IsStrictlyIncreasing}
use Rattle.walk_enum.specs.Inner.Turns.{row_of}
use Rattle.walk_enum.proofs.Elements.{from_filter, flat_same}
use Rattle.walk_enum.proofs.Ascending.{Ascends, increasing_from_ascends}
use Rattle.walk_simple.specs.SimpleWalks.{is_new, simple_along}
use Rattle.walk_simple.specs.Inner.Searching.{Comes, Covers}
use Rattle.walk_simple.proofs.Walking.{by_node, over}

-- the walks along the rows are those along the successors
pub same_along : (next : ℕ → List ℕ) (from most : ℕ) (rows : List (List ℕ)) → Covers next from most rows → (used : List ℕ) (a b j k : ℕ) → j + k ≤ most → Comes next from a j
    → simple_along (row_of rows) used a b k ≡ simple_along next used a b k
same_along next from most rows covers used a b j zero le comes = refl
same_along next from most rows covers used a b j (suc k) le comes =
    let row : row_of rows a ≡ next a = covers.near a j (omega (arith, le)) comes in
    let path = used ++ a ∷ [] in
    let kept = filter (is_new path) (next a) in
    let each : over (row_of rows) used a b k (next a) ≡ over next used a b k (next a) =
    flat_same (by_node (row_of rows) used a b k) (by_node next used a b k) kept
    (λ c has. ap (map (λ w. a ∷ w)) (same_along next from most rows covers path c b (suc j) k (omega (arith, le)) (a, comes, from_filter (is_new path) (next a) c has))) in
    ap (λ (ws : List (List ℕ)). cond (a == b) ((a ∷ []) ∷ []) ws) (ap (over (row_of rows) used a b k) row ∙ each)

pub covers_rise : (next : ℕ → List ℕ) (from most : ℕ) (rows : List (List ℕ)) → ((c : ℕ) → Ascends ◌<◌ (next c)) → Covers next from most rows → (c : ℕ) → IsStrictlyIncreasing (row_of rows c)
covers_rise next from most rows rise covers c = elim (covers.each c) [
  | inl e ↦ subst IsStrictlyIncreasing (sym e) (increasing_from_ascends [] tt)
  | inr e ↦ subst IsStrictlyIncreasing (sym e) (increasing_from_ascends (next c) (rise c))
]
