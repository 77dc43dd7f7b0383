use Rattle.std.proofs.Common.{take}
use Rattle.rule_order.specs.RuleKeys.{AreGathered}
use Rattle.rule_order.proofs.sorting.sort_by_rule_order.Given as goal

abbrev pub invariant-loop-number : goal.invariant-loop-number
invariant-loop-number l = AreGathered l.policy (take l.number-index l.numbers) l.keys
