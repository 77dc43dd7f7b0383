use Rattle.std.proofs.Common.{take}
use Rattle.rule_singles.proofs.Made.{Making}
use Rattle.rule_singles.proofs.single_rules.SingleRules.of.Given as goal

-- The entries of the rules so far are made.
abbrev pub invariant-loop-number : goal.invariant-loop-number
invariant-loop-number l = Making l.policy l.criteria l.sources.left l.targets.left l.sources.numbers.items l.targets.numbers.items (take l.number-index l.numbers) l.pool l.entries.items
