use Rattle.std.proofs.Common.{refl}
use Rattle.rule_query.specs.Listed.{meets_node}
use Rattle.rule_query.proofs.Passing.{added_where, kept_next, left_where}
use Rattle.rule_query.proofs.listed.meeting_nodes.Goals as goal
use Rattle.rule_query.proofs.listed.meeting_nodes.Goals.{then-branch+in_ok-push, else-branch}

pub loop-node-preserved : goal.loop-node-preserved
loop-node-preserved c =
    let p = meets_node c.args.policy.now c.args.criterion.now in
    let node = c.loop-node.node in
    let nodes = c.loop-node.nodes.items in
    elim c.if-branch.branch [
      | then-branch+in_ok-push w ↦
          rw w.nodes-is (kept_next p node nodes w.push.new.self.items (p node) c.loop-node.invariant
          (added_where nodes w.push.new.self.items node c.in_ok-node_meets.field-0 (p node) w.if-branch.true c.in_ok-node_meets.ensures w.in_ok-push.ensures.items) refl)
      | else-branch w ↦
          rw w.nodes-is (kept_next p node nodes nodes (p node) c.loop-node.invariant
          (left_where nodes node c.in_ok-node_meets.field-0 (p node) w.if-branch.false c.in_ok-node_meets.ensures) refl)
    ]
