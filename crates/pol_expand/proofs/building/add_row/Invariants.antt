use Rattle.pol_bitmap.specs.Nodes.{bits_of}
use Rattle.pol_expand.proofs.Gains.{Gaining}
use Rattle.pol_expand.proofs.building.add_row.Given as goal

abbrev pub invariant-loop-bit : goal.invariant-loop-bit
invariant-loop-bit l = Gaining l.place (bits_of l.row) l.bit-iterator l.fn.words.items l.words.items
