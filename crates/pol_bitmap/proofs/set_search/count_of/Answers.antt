use Rattle.std.proofs.Common.{◌<◌, ◌^◌, get_or, arith}
use Rattle.std.proofs.lemmas.Nat.{ones-le}
use Rattle.std.proofs.lemmas.Option.{slice_get-get_or}
use Rattle.pol_bitmap.specs.declared.node.Node.{Node}
use Rattle.pol_bitmap.proofs.SetPlaces.{nodes_fit, count_more}
use Rattle.pol_bitmap.proofs.set_search.count_of.Goals as goal

pub overflow_add-total : goal.overflow_add-total
overflow_add-total c =
    let n : Node = get_or c.args.nodes.now c.loop-node.node-index (record { start = 0; map = 0 }) in
    let fits : n.map < 2 ^ 64 = omega arith in
    omega (arith, ones-le 64 n.map fits, nodes_fit 0 c.args.nodes.now (omega arith) c.requires, c.loop-node.invariant.1)

pub loop-node-preserved : goal.loop-node-preserved
loop-node-preserved c =
    let n : Node = get_or c.args.nodes.now c.loop-node.node-index (record { start = 0; map = 0 }) in
    count_more c.args.nodes.now c.loop-node.node-index n c.loop-node.total (slice_get-get_or c.args.nodes.now c.loop-node.node-index (record { start = 0; map = 0 }) (omega arith)) (omega arith) c.loop-node.invariant
