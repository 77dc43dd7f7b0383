use Rattle.std.proofs.Common.{◌≡◌, take}
use Rattle.rules_between.specs.Inner.RuleTables.{AreEndsOf}
use Rattle.rules_between.proofs.rule_table.gathered_rules.Given as goal

abbrev pub invariant-loop-number : goal.invariant-loop-number
invariant-loop-number l = (l.gathered.rules.items ≡ take l.number-index l.numbers) × AreEndsOf l.policy l.gathered.rules.items l.gathered.sources.items l.gathered.targets.items
