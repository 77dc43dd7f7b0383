use Rattle.rule_query.proofs.NodeTests.{node_equal, node_shares}
use Rattle.rule_query.proofs.listed.node_meets.Goals as goal

pub returns-in-Equal : goal.returns-in-Equal
returns-in-Equal c = node_equal c.args.policy.now c.args.criterion.now c.args.node c.condition.result c.condition.ensures c.args.asked.now c.in_ok-booleans.booleans c.requires.asked c.in_ok-booleans.ensures c.have_same_bits.result c.in-Equal.is c.have_same_bits.ensures

pub returns : goal.returns
returns c = node_shares c.args.policy.now c.args.criterion.now c.args.node c.condition.result c.condition.ensures c.args.asked.now c.in_ok-booleans.booleans c.requires.asked c.in_ok-booleans.ensures c.meets.result c.in_default.not-Equal c.meets.ensures
