use Rattle.std.proofs.Common.{◌≡◌}
use Rattle.std.specs.List.{filter, range_with_len}
use Rattle.rule_query.specs.Listed.{meets_node}
use Rattle.rule_query.proofs.listed.meeting_nodes.Given as goal

abbrev pub invariant-loop-node : goal.invariant-loop-node
invariant-loop-node l = l.nodes.items ≡ filter (meets_node l.policy l.criterion) (range_with_len 0 l.node)
