use Rattle.std.proofs.Common.{◌<◌, ◌^◌, length, ap, ◌∙◌, arith}
use Rattle.std.proofs.lemmas.List.{length-append}
use Rattle.std.proofs.lemmas.Nat.{ones-le}
use Rattle.std.proofs.Common.{take}
use Rattle.pol_bitmap.specs.Nodes.{node_bits, bits_of}
use Rattle.pol_bitmap.proofs.NodeBits.{bits_more}
use Rattle.pol_bitmap.proofs.BitLists.{length-node_bits}
use Rattle.pol_bitmap.proofs.view.BitmapView.count.Goals as goal

pub loop-i-preserved : goal.loop-i-preserved
loop-i-preserved c =
    let n = c.node.result in
    let ns = c.args.self.now in
    let fits : n.map < 2 ^ 64 = omega arith in
    let more = ap length (bits_more ns c.loop-i.i n c.node.ensures.is) ∙ length-append (bits_of (take c.loop-i.i ns)) (node_bits n) in
    let here = length-node_bits n fits in
    let few = ones-le 64 n.map fits in
    (omega (arith, more, here, c.loop-i.invariant.0), omega (arith, few, c.loop-i.invariant.1))
