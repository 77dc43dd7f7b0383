-- Walks along the edges of a graph, as lists of nodes.
use Rattle.std.specs.Prelude.{ℕ, zero, suc, Bool, cond, List, [], ◌∷◌, map, ◌==◌, ◌≡◌, ◌↔◌, Contains, true}
use Rattle.std.specs.List.{filter, flat_map, range_with_len}

-- the successors of a node: the nodes that it has an edge to, rising; a graph of a size has the nodes 1 to that size
abbrev pub successors_of : (ℕ → ℕ → Bool) → ℕ → ℕ → List ℕ
successors_of edge size a = filter (edge a) (range_with_len 1 size)

-- The walks from a node to a node of so many steps, along given successors. One of no step is the node alone. One of more steps is the
-- node before a walk of one step less from a successor: by the successors in their order, and for each of them by its walks in theirs.
abbrev pub walks_along : (ℕ → List ℕ) → ℕ → ℕ → ℕ → List (List ℕ)
walks_along next a b zero = cond (a == b) ((a ∷ []) ∷ []) []
walks_along next a b (suc k) = flat_map (λ c. map (λ w. a ∷ w) (walks_along next c b k)) (next a)

-- the walks of so many steps along the edges of a graph
abbrev pub walks : (ℕ → ℕ → Bool) → ℕ → ℕ → ℕ → ℕ → List (List ℕ)
walks edge size a b k = walks_along (successors_of edge size) a b k

-- there is a walk of so many steps
abbrev pub Goes : (ℕ → List ℕ) → ℕ → ℕ → ℕ → Type 0
Goes next a b zero = a ≡ b
Goes next a b (suc k) = (c : ℕ) × Contains (next a) c × Goes next c b k

-- the first list that is not empty, or the empty list
abbrev pub first_some : List (List (List ℕ)) → List (List ℕ)
first_some [] = []
first_some ([] ∷ rest) = first_some rest
first_some ((w ∷ ws) ∷ rest) = w ∷ ws

-- the shortest walks: those of the least number of steps, below the number of nodes, of which there is a walk
abbrev pub least_walks : (ℕ → ℕ → Bool) → ℕ → ℕ → ℕ → List (List ℕ)
least_walks edge size a b = first_some (map (walks edge size a b) (range_with_len 0 size))

-- some nodes are exactly the successors of a node
pub record AreSuccessors (edge : ℕ → ℕ → Bool) (a : ℕ) (found : List ℕ) : Type 0 where
  pub each : (b : ℕ) → Contains found b ↔ (edge a b ≡ true)
