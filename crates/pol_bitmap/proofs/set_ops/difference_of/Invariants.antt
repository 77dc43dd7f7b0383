use Rattle.std.proofs.Common.{◌+◌, length}
use Rattle.pol_bitmap.proofs.Merging.{Merging, only_left}
use Rattle.pol_bitmap.proofs.set_ops.difference_of.Given as goal

abbrev pub invariant-merge : goal.invariant-merge
invariant-merge l = Merging only_left l.left l.right l.out.items l.a l.b

abbrev pub decreases-merge : goal.decreases-merge
decreases-merge l = length l.a + length l.b
