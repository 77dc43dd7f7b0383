use Rattle.std.proofs.Common.{◌≡◌, take}
use Rattle.pol_bitmap.specs.Nodes.{bits_of}
use Rattle.pol_bitmap.specs.Sets.{IsSet}
use Rattle.pol_bitmap.proofs.set_build.nodes_from.Given as goal

abbrev pub invariant-loop-bit : goal.invariant-loop-bit
invariant-loop-bit l = IsSet l.nodes.items × (bits_of l.nodes.items ≡ take l.bit-index l.bits)
