use Rattle.rule_query.proofs.TestsRight.{are_meant}
use Rattle.rule_query.proofs.ends.defaults.Goals as goal

pub returns : goal.returns
returns c = are_meant c.args.criterion.now c.in_ok-of_types.of_types c.in_ok-of_roles.of_roles c.args.symbols.now c.of.result c.of.ensures.types c.of.ensures.roles c.in_ok-of_types.ensures c.in_ok-of_roles.ensures
