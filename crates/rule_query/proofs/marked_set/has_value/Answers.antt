use Rattle.rule_tests.proofs.ListTests.{has_is}
use Rattle.rule_query.proofs.marked_set.has_value.Goals as goal

pub returns : goal.returns
returns c = has_is c.has.result c.args.set.now c.args.value c.has.ensures
