use Rattle.std.proofs.Common.{sym, ◌∙◌}
use Rattle.info_classes.proofs.ExpressionTexts.{node_more, same_node}
use Rattle.info_classes.proofs.expression_texts.has_same_nodes.Goals as goal

pub loop-i-preserved : goal.loop-i-preserved
loop-i-preserved c =
    node_more c.args.bitmap.now c.args.other.now c.loop-i.i c.node.result c.node-in-loop-i.result c.node.ensures.is c.node-in-loop-i.ensures.is
    (same_node c.node.result c.node-in-loop-i.result (sym c.ne.ensures ∙ c.if-ne.false)) c.loop-i.invariant
