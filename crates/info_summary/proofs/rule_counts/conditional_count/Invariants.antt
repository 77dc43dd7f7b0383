use Rattle.std.proofs.Common.{◌≡◌, ◌+◌, length}
use Rattle.pol_read.specs.StoredRules.{rules_of_nodes}
use Rattle.info_summary.proofs.RuleCounting.{rules_from}
use Rattle.info_summary.proofs.rule_counts.conditional_count.Given as goal

-- what was counted and what is left are all
abbrev pub invariant-loop-node : goal.invariant-loop-node
invariant-loop-node l = l.count + rules_from l.nodes l.node ≡ length (rules_of_nodes l.nodes)
