use Rattle.std.proofs.Common.{zero-add}
use Rattle.pol_cursor.proofs.Ranges.{range_more}
use Rattle.pol_bitmap.proofs.BitLists.{rises_increasing}
use Rattle.set_nodes.proofs.SetBits.{range-rises}
use Rattle.set_nodes.proofs.sets.first_bits.Goals as goal

pub loop-bit-preserved : goal.loop-bit-preserved
loop-bit-preserved c = rw (c.in_ok-push.ensures.items, c.loop-bit.invariant, range_more 0 c.loop-bit.bit) (simp zero-add)

pub set_of-requires : goal.set_of-requires
set_of-requires c = rw (c.deref.ensures.value, c.loop-bit.invariant) (rises_increasing 0 _ (range-rises 0 c.loop-bit.bit))
