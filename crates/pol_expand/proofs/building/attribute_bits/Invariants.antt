use Rattle.std.proofs.Common.{◌≡◌}
use Rattle.pol_expand.specs.Inner.Inverting.{attribute_bits}
use Rattle.pol_expand.proofs.building.attribute_bits.Given as goal

abbrev pub invariant-loop-bit : goal.invariant-loop-bit
invariant-loop-bit l = l.bits.items ≡ attribute_bits l.attributes l.bit
