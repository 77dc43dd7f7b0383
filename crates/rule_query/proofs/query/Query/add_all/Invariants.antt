use Rattle.rule_query.specs.Inner.Gathering.{HasFound}
use Rattle.rule_query.proofs.query.Query.add_all.Given as goal

abbrev pub invariant-loop-number : goal.invariant-loop-number
invariant-loop-number l = HasFound l.policy l.self l.number l.initial.found l.found
