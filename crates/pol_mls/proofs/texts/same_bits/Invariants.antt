use Rattle.std.proofs.Common.{◌≡◌}
use Rattle.std.specs.Prelude.{bytes_eq}
use Rattle.pol_bitmap.specs.Nodes.{bits_of}
use Rattle.pol_mls.proofs.texts.same_bits.Given as goal

abbrev pub invariant-loop-bit : goal.invariant-loop-bit
invariant-loop-bit l = bytes_eq (bits_of l.a) (bits_of l.b) ≡ bytes_eq l.bit-iterator l.others
