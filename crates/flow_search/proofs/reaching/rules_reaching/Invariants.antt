use Rattle.std.proofs.Common.{◌≡◌}
use Rattle.std.specs.List.{filter, range_with_len}
use Rattle.perm_map.specs.PermissionMap.{weights_of}
use Rattle.flow_search.specs.FlowWeights.{inwards, outwards}
use Rattle.flow_search.specs.Flows.{is_counted}
use Rattle.flow_search.specs.Inner.FlowParts.{reaches}
use Rattle.flow_search.proofs.reaching.rules_reaching.Given as goal

abbrev pub invariant-loop-number : goal.invariant-loop-number
invariant-loop-number l =
    (l.out.items ≡ filter (reaches outwards (weights_of l.weigher.entries) l.weigher.rules.policy l.least) (filter (is_counted l.weigher.rules) (range_with_len 0 l.number)))
    × (l.into.items ≡ filter (reaches inwards (weights_of l.weigher.entries) l.weigher.rules.policy l.least) (filter (is_counted l.weigher.rules) (range_with_len 0 l.number)))
