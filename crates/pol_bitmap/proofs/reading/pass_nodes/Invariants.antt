use Rattle.pol_cursor.proofs.Lists.{Passing}
use Rattle.pol_bitmap.specs.Bitmap.{node_at, floor_after}
use Rattle.pol_bitmap.proofs.reading.pass_nodes.Given as goal

abbrev pub invariant-loop-i : goal.invariant-loop-i
invariant-loop-i l = Passing (node_at l.limit l.highbit) floor_after l.count 0 l.fn.c l.i l.floor l.c
