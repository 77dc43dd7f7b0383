use Rattle.std.proofs.Common.{◌≡◌, map}
use Rattle.std.specs.List.{filter, range_with_len}
use Rattle.perm_map.specs.PermissionMap.{weights_of}
use Rattle.flow_search.specs.FlowWeights.{greatest}
use Rattle.flow_search.specs.Flows.{given_by, is_counted}
use Rattle.flow_search.proofs.weigher.Weigher.flow.Given as goal

abbrev pub invariant-loop-number : goal.invariant-loop-number
invariant-loop-number l = l.weight ≡ greatest (map (given_by (weights_of l.self.entries) l.self.rules.policy l.from l.to) (filter (is_counted l.self.rules) (range_with_len 0 l.number)))
