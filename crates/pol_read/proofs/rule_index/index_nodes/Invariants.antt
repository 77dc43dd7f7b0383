use Rattle.std.proofs.Common.{◌≡◌}
use Rattle.std.specs.List.{range_with_len}
use Rattle.pol_read.specs.StoredRules.{rules_of_node}
use Rattle.pol_read.specs.Inner.RuleNumbers.{lengths_of}
use Rattle.pol_read.proofs.rule_index.index_nodes.Given as goal

abbrev pub invariant-loop-i : goal.invariant-loop-i
invariant-loop-i l = l.sums ≡ lengths_of (rules_of_node l.nodes) (range_with_len 0 l.i)
