use Rattle.std.proofs.Common.{◌≡◌, ◌+◌}
use Rattle.pol_bitmap.specs.Nodes.{bits_of}
use Rattle.pol_expand.specs.PolicyMap.{row_in}
use Rattle.pol_expand.specs.Inner.StoredEnds.{is_attribute_bit}
use Rattle.value_groups.proofs.Adding.{Adding}
use Rattle.pol_expand.proofs.stored_ends.add_attributes.Given as goal

abbrev pub invariant-loop-bit : goal.invariant-loop-bit
invariant-loop-bit g l = (l.ends.count ≡ l.policy.symbols.types.nprim + 1) × Adding (is_attribute_bit l.policy (g.E.EndsInUse.has l.had)) (bits_of (row_in l.policy l.node)) l.bit-iterator l.initial.ends.values l.ends.values
