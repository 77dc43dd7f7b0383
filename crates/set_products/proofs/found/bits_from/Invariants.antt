use Rattle.std.proofs.Common.{length}
use Rattle.pol_bitmap.specs.Nodes.{bits_of}
use Rattle.set_products.proofs.Rising.{BothLeft}
use Rattle.set_products.proofs.found.bits_from.Given as goal

abbrev pub invariant-loop-found : goal.invariant-loop-found
invariant-loop-found l = BothLeft (bits_of l.set) l.bit (length l.yielded) l.left l.found-iterator
