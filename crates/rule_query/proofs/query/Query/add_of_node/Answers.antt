use Rattle.std.proofs.Common.{false, true}
use Rattle.pol_read.specs.StoredRules.{rules_of_branch}
use Rattle.rule_query.proofs.MetRules.{stand_right}
use Rattle.rule_query.proofs.query.Query.add_of_node.Goals as goal

pub add_of_branch-requires-2-clause-rules : goal.add_of_branch-requires-2-clause-rules
add_of_branch-requires-2-clause-rules c =
    let nodes = c.args.policy.now.rules.conditionals in
    stand_right c.args.policy.now c.args.first c.in_ok-next.next (rules_of_branch nodes c.args.node true) (rules_of_branch nodes c.args.node false) c.in_ok-next.ensures.next c.requires.rules
