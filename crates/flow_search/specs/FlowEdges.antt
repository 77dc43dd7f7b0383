-- The graph of the flows of at least a weight.
use Rattle.std.specs.Prelude.{ℕ, Bool, ◌&&◌, not, nat_le, List}
use Rattle.pol_bitmap.specs.declared.Node.{Node}
use Rattle.pol_bitmap.specs.Nodes.{has_bit}
use Rattle.counted_rules.specs.CountedRules.{Counted}
use Rattle.perm_map.specs.PermissionMap.{Entry, weights_of}
use Rattle.pol_expand.specs.PlainTypes.{are_two_types}
use Rattle.walk_enum.specs.Turned.{turned}
use Rattle.flow_search.specs.Flows.{flow_weight}

-- What a caller sees: the rules of a policy that count and the entries of a permission map, the least weight of an edge, the types that no edge
-- joins, and whether the edges are turned round.
pub record FlowSearch : Type 0 where
  pub rules : Counted
  pub entries : List Entry
  pub least : ℕ
  pub excluded : List Node
  pub reverse : Bool

-- as many nodes as type values
abbrev pub flow_count : FlowSearch → ℕ
flow_count search = search.rules.policy.symbols.types.nprim

-- two types that are not excluded, with a flow of at least the weight from the one to the other
unfoldable pub is_flow : FlowSearch → ℕ → ℕ → Bool
is_flow search from to =
    are_two_types search.rules.policy from to && nat_le search.least (flow_weight (weights_of search.entries) search.rules from to)
    && not (has_bit search.excluded from) && not (has_bit search.excluded to)

-- an edge is such a flow, or one back in the graph that is turned round
abbrev pub flow_edge : FlowSearch → ℕ → ℕ → Bool
flow_edge search = turned search.reverse (is_flow search)
