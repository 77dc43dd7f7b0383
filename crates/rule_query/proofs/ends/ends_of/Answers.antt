use Rattle.rule_query.proofs.TestsRight.{are_ends}
use Rattle.rule_query.proofs.ends.ends_of.Goals as goal

pub returns-clause-ends : goal.returns-clause-ends
returns-clause-ends c = are_ends c.args.criterion.now c.in_ok-of_types.of_types c.in_ok-of_roles.of_roles c.args.policy.now c.of.result c.of.ensures.types c.of.ensures.roles c.in_ok-of_types.ensures.ends (rw c.symbols.ensures at c.in_ok-of_roles.ensures)
