use Rattle.std.proofs.Common.{◌<◌, take}
use Rattle.std.specs.List.{All}
use Rattle.pol_bitmap.specs.Nodes.{bits_of}
use Rattle.pol_bitmap.proofs.set_search.next_of.Given as goal

abbrev pub invariant-loop-i : goal.invariant-loop-i
invariant-loop-i l = All (λ c. c < l.bit) (bits_of (take l.i l.nodes))
