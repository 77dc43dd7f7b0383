-- Edges of a graph that keeps sets of successors: the set at a place is that of the node of that number.
use Rattle.std.specs.Prelude.{◌≡◌, ◌≤◌, ◌⊎◌, ◌↔◌, ℕ, Bool, true, ◌&&◌, ◌-◌, List, [], length, nat_le, slice_index_or, Contains}
use Rattle.std.proofs.lemmas.Bool.{and_parts, leb-true}
use Rattle.pol_bitmap.specs.declared.Node.{Node}
use Rattle.pol_bitmap.specs.Nodes.{bits_of, has_bit}

-- the first set stands for no node
abbrev pub node_count : List (List Node) → ℕ
node_count sets = length sets - 1

-- nodes are the numbers from 1 to their count
abbrev pub is_node : List (List Node) → ℕ → Bool
is_node sets n = nat_le 1 n && nat_le n (node_count sets)

-- an edge from the one node to the other
abbrev pub has_edge : List (List Node) → ℕ → ℕ → Bool
has_edge sets a b = is_node sets a && is_node sets b && has_bit (slice_index_or sets a []) b

-- the sets have nodes alone
abbrev pub HaveNodes : List (List Node) → Type 0
HaveNodes sets = (a b : ℕ) → Contains (bits_of (slice_index_or sets a [])) b → (1 ≤ b) × (b ≤ node_count sets)

-- one edge more, unless it was there
pub record AddsEdge (old new : List (List Node)) (from to : ℕ) : Type 0 where
  pub size : length new ≡ length old
  pub edges : (a b : ℕ) → (has_edge new a b ≡ true) ↔ ((has_edge old a b ≡ true) ⊎ ((a ≡ from) × (b ≡ to)))

-- an edge joins nodes
pub edges_join : (sets : List (List Node)) (a b : ℕ) → has_edge sets a b ≡ true → (1 ≤ a) × (a ≤ node_count sets) × (1 ≤ b) × (b ≤ node_count sets)
edges_join sets a b e =
    let both = and_parts _ _ (and_parts _ _ e).0 in
    let one = and_parts _ _ both.0 in
    let other = and_parts _ _ both.1 in
    (leb-true 1 a one.0, leb-true a (node_count sets) one.1, leb-true 1 b other.0, leb-true b (node_count sets) other.1)
