-- Walks along the edges of a graph that have no node twice.
use Rattle.std.specs.Prelude.{ℕ, zero, suc, Bool, not, cond, List, [], ◌∷◌, ◌++◌, map, ◌==◌}
use Rattle.std.specs.List.{filter, flat_map, list_any}
use Rattle.walk_enum.specs.Walks.{successors_of}

-- a node is none of some nodes
abbrev pub is_new : List ℕ → ℕ → Bool
is_new nodes c = not (list_any (λ n. n == c) nodes)

-- The walks from a node to a node of at most so many steps, along given successors, that have no node twice and none of those that are
-- used. Where both are one, that is the node alone. Otherwise it is the node before a walk of one step less from a successor, which is
-- neither the node nor used: by the successors in their order, and for each of them by its walks in theirs.
abbrev pub simple_along : (ℕ → List ℕ) → List ℕ → ℕ → ℕ → ℕ → List (List ℕ)
simple_along next used a b zero = cond (a == b) ((a ∷ []) ∷ []) []
simple_along next used a b (suc k) = cond (a == b) ((a ∷ []) ∷ []) (flat_map (λ c. map (λ w. a ∷ w) (simple_along next (used ++ a ∷ []) c b k)) (filter (is_new (used ++ a ∷ [])) (next a)))

-- the walks from a node to a node of at most so many steps along the edges of a graph that have no node twice
abbrev pub simple_walks : (ℕ → ℕ → Bool) → ℕ → ℕ → ℕ → ℕ → List (List ℕ)
simple_walks edge size a b most = simple_along (successors_of edge size) [] a b most
