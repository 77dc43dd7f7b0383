use Rattle.pol_read.proofs.RulesDeclared.{ends_are_declared}
use Rattle.pol_read.proofs.policy.Policy.rule_ends.Goals as goal

pub returns-clause-declared : goal.returns-clause-declared
returns-clause-declared c = rw (← c.self.view_is) (ends_are_declared c.self.inside.bytes.now c.self.inside.parts c.args.n c.ends_at.result c.self.invariant.0 c.ends_at.ensures)
