use Rattle.pol_read.specs.StoredRules.{stored}
use Rattle.pol_read.proofs.RulesDeclared.{rule_is_declared}
use Rattle.pol_read.proofs.policy.Policy.rule.Goals as goal

pub returns-clause-declared : goal.returns-clause-declared
returns-clause-declared c = rw (← c.self.view_is) (rule_is_declared c.self.inside.bytes.now c.self.inside.parts c.args.n (stored c.rule_at.result) c.self.invariant.0 c.rule_at.ensures)
