use Rattle.std.proofs.Common.{◌∙◌, arith}
use Rattle.rule_query.proofs.MetRules.{stand_here, stand_next}
use Rattle.rule_query.proofs.query.Query.add_under_conditions.Goals as goal

pub add_of_node-requires-clause-rules : goal.add_of_node-requires-clause-rules
add_of_node-requires-clause-rules c = stand_here c.args.policy.now c.loop-node.next c.loop-node.node (omega (arith, rw c.conditionals.ensures at c.len-node-end.ensures, c.loop-node-test.true)) c.loop-node.invariant.rules

pub loop-node-preserved : goal.loop-node-preserved
loop-node-preserved c = record {
  rules = stand_next c.args.policy.now c.loop-node.next c.in_ok-next.next c.loop-node.node (omega (arith, rw c.conditionals.ensures at c.len-node-end.ensures, c.loop-node-test.true)) c.in_ok-next.ensures.next c.loop-node.invariant.rules;
  found = record { met = c.in_ok-next.ensures.found; limit = c.in_ok-next.ensures.limit ∙ c.loop-node.invariant.found.limit };
}
