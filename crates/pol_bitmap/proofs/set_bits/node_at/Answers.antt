use Rattle.std.proofs.lemmas.Option.{slice_get-get_or}
use Rattle.pol_bitmap.specs.declared.node.Node.{Node}
use Rattle.pol_bitmap.proofs.LowestBits.{rising_full}
use Rattle.pol_bitmap.proofs.NodeBits.{rising_start}
use Rattle.pol_bitmap.proofs.set_bits.node_at.Goals as goal

pub returns-clause-whole : goal.returns-clause-whole
returns-clause-whole c =
    let none : Node = record { start = 0; map = 0 } in
    rising_start 0 c.args.nodes.now c.args.i _ c.requires.rising (slice_get-get_or c.args.nodes.now c.args.i none c.requires.within)

pub returns-clause-full : goal.returns-clause-full
returns-clause-full c =
    let none : Node = record { start = 0; map = 0 } in
    rising_full 0 c.args.nodes.now c.args.i _ c.requires.rising (slice_get-get_or c.args.nodes.now c.args.i none c.requires.within)
