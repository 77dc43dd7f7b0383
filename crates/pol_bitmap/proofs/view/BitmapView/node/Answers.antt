use Rattle.std.proofs.Common.{length, ◌+◌, ◌<◌, ap, arith}
use Rattle.pol_cursor.specs.Parts.{num}
use Rattle.pol_bitmap.specs.Nodes.{bitmap_in}
use Rattle.pol_bitmap.proofs.NodePlaces.{get_nodes_in, length_nodes_in}
use Rattle.pol_bitmap.proofs.NodeBits.{rising_start}
use Rattle.pol_bitmap.proofs.view.BitmapView.node.Goals as goal

pub returns-clause-whole : goal.returns-clause-whole
returns-clause-whole c =
    let bytes = c.self.inside.bytes.now in
    let place = c.self.inside.place in
    let n = num bytes (place + 8) 4 in
    let lt : c.args.i < n = omega (arith, c.requires, length_nodes_in bytes (place + 12) n, ap length c.self.view_is) in
    let one = rising_start 0 (bitmap_in bytes place) c.args.i _ c.self.invariant.2 (get_nodes_in bytes (place + 12) n c.args.i lt) in
    rw c.u32_in.ensures one
