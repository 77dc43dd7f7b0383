-- Tables of successors, and where a walk of one can turn.
use Rattle.std.specs.Prelude.{◌≡◌, ◌≤◌, ◌<◌, ◌+◌, ◌^◌, ℕ, zero, suc, List, [], ◌∷◌, ◌++◌, length, Contains, slice_index, slice_index_or, drop, ◌-◌}
use Rattle.std.specs.List.Sorted.{IsStrictlyIncreasing}
use Rattle.walk_enum.specs.Walks.{walks_along}

-- one stands right before the other in a list
pub record Follows {X : Type 0} (xs : List X) (x y : X) : Type 0 where
  pub front : List X
  pub back : List X
  pub is : xs ≡ front ++ x ∷ y ∷ back

-- it is the last of a list
pub record IsLast {X : Type 0} (xs : List X) (x : X) : Type 0 where
  pub front : List X
  pub is : xs ≡ front ++ x ∷ []

-- ---- a table of successors

-- the successors of a node in a table by nodes: none where it has no row
abbrev pub row_of : List (List ℕ) → ℕ → List ℕ
row_of rows a = slice_index_or rows a []

-- From a node each way on leads to the target in so many steps.
abbrev pub Leads : (ℕ → List ℕ) → ℕ → ℕ → ℕ → Type 0
Leads next b a zero = a ≡ b
Leads next b a (suc k) = (0 < length (next a)) × ((c : ℕ) → Contains (next a) c → Leads next b c k)

-- the successors of each node rise, and each way from the source leads to the target
pub record AreLayers (rows : List (List ℕ)) (a b k : ℕ) : Type 0 where
  pub rising : (c : ℕ) → IsStrictlyIncreasing (row_of rows c)
  pub leads : Leads (row_of rows) b a k
  pub short : k + 1 < 2 ^ 32

-- A walk can take another successor at a place, and at no later one.
pub record IsTurn (next : ℕ → List ℕ) (b k : ℕ) (walk : List ℕ) (place node : ℕ) : Type 0 where
  pub later : 1 ≤ place
  pub within : place ≤ k
  pub moves : Follows (next (slice_index walk (place - 1))) (slice_index walk place) node
  pub ends : IsLast (walks_along next (slice_index walk place) b (k - place)) (drop place walk)

-- the walk that takes the first successor at each step
abbrev pub first_along : (ℕ → List ℕ) → ℕ → ℕ → List ℕ
first_along next a zero = a ∷ []
first_along next a (suc k) = a ∷ first_along next (slice_index (next a) 0) k
