use Rattle.std.proofs.Common.{◌-◌, ◌≤◌, length}
use Rattle.rule_query.specs.Inner.Gathering.{HasFound}
use Rattle.rule_query.proofs.query.Query.add_of_table.Given as goal

abbrev pub invariant-loop-from : goal.invariant-loop-from
invariant-loop-from l = (l.from ≤ length l.policy.rules.table) × HasFound l.policy l.self l.from l.initial.found l.found

abbrev pub decreases-loop-from : goal.decreases-loop-from
decreases-loop-from l = length l.policy.rules.table - l.from
