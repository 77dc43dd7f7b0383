use Rattle.pol_bitmap.proofs.SetMaking.{before_below}
use Rattle.pol_bitmap.proofs.set_build.nodes_from.Goals as goal

pub add_bit-requires-clause-above : goal.add_bit-requires-clause-above
add_bit-requires-clause-above c = rw c.loop-bit.invariant.1 (before_below c.args.bits.now c.loop-bit.bit-index c.requires c.loop-bit-test.true)
