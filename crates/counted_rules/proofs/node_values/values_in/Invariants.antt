use Rattle.std.proofs.Common.{◌≡◌, take}
use Rattle.counted_rules.specs.CountedRules.{node_values}
use Rattle.counted_rules.proofs.node_values.values_in.Given as goal

abbrev pub invariant-loop-node : goal.invariant-loop-node
invariant-loop-node l = l.values.items ≡ node_values l.state (take l.node l.policy.rules.conditionals)
