-- An edge joins nodes.
use Rattle.std.proofs.Common.{◌≡◌, ℕ, ◌≤◌, true, ◌&&◌, not, leb}
use Rattle.std.proofs.lemmas.Bool.{and_parts}
use Rattle.pol_bitmap.specs.Nodes.{has_bit}
use Rattle.pol_expand.specs.PlainTypes.{are_two_types}
use Rattle.pol_expand.proofs.TypesOutside.{two_within}
use Rattle.perm_map.specs.PermissionMap.{weights_of}
use Rattle.walk_enum.proofs.TurnedEdges.{turned_between}
use Rattle.flow_search.specs.Flows.{flow_weight}
use Rattle.flow_search.specs.FlowEdges.{FlowSearch, flow_count, flow_edge, is_flow}

-- a flow joins nodes
flow_within : (search : FlowSearch) (a b : ℕ) → is_flow search a b ≡ true → (1 ≤ a) × (a ≤ flow_count search) × (1 ≤ b) × (b ≤ flow_count search)
unfolding is_flow
flow_within search a b h =
    let two = are_two_types search.rules.policy a b in
    let reaches = leb search.least (flow_weight (weights_of search.entries) search.rules a b) in
    let first = and_parts (two && reaches && not (has_bit search.excluded a)) (not (has_bit search.excluded b)) h in
    let second = and_parts (two && reaches) (not (has_bit search.excluded a)) first.0 in
    two_within search.rules.policy a b (and_parts two reaches second.0).0

-- the edges of the graph join nodes, whichever way it is turned
pub edges_join : (search : FlowSearch) (a b : ℕ) → flow_edge search a b ≡ true → (1 ≤ a) × (a ≤ flow_count search) × (1 ≤ b) × (b ≤ flow_count search)
edges_join search = turned_between (flow_count search) (is_flow search) (flow_within search) search.reverse
