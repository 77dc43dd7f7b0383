use Rattle.rule_query.proofs.TestsRight.{permissions_right}
use Rattle.rule_query.proofs.test_making.test_of.Goals as goal

pub returns-in_ok-of-in-Permissions-clause-test : goal.returns-in_ok-of-in-Permissions-clause-test
returns-in_ok-of-in-Permissions-clause-test c = rw c.in-Permissions.is (permissions_right c.args.policy.now c.args.given.now.criterion.now c.in_ok-of-in-Permissions.field-0 (rw c.symbols-symbols.ensures at c.in_ok-of-in-Permissions.ensures))
