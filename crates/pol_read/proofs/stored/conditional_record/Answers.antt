use Rattle.pol_read.proofs.RuleSums.{node_within, node_item}
use Rattle.pol_read.proofs.stored.conditional_record.Goals as goal

pub node_record-requires-clause-node : goal.node_record-requires-clause-node
node_record-requires-clause-node c = node_within c.args.nodes.now c.args.lengths.now c.requires.lengths c.find-node.result.0 c.find-node.ensures.list

pub node_record-requires-clause-rule : goal.node_record-requires-clause-rule
node_record-requires-clause-rule c =
    node_item c.args.nodes.now c.args.lengths.now c.requires.lengths c.find-node.result.0 c.find-node.ensures.list c.find-node.result.1 c.find-node.ensures.item
