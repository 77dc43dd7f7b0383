use Rattle.std.proofs.Common.{◌≡◌, map, take}
use Rattle.perm_map.specs.PermissionMap.{weights_of}
use Rattle.flow_search.specs.FlowWeights.{greatest}
use Rattle.flow_search.specs.Flows.{given_by}
use Rattle.flow_search.proofs.flow_graph.FlowGraph.weight.Given as goal

abbrev pub invariant-loop-number : goal.invariant-loop-number
invariant-loop-number l = l.weight ≡ greatest (map (given_by (weights_of l.self.entries) l.self.rules.policy l.from l.to) (take l.number-index l.rules))
