use Rattle.std.proofs.Common.{◌≡◌, ℕ, ◌-◌, vec_len}
use Rattle.pol_cursor.specs.Inner.BitPlaces.{has_bit_of}
use Rattle.pol_symtab.proofs.taken_values.grow.Given as goal

abbrev pub decreases-loop-bits : goal.decreases-loop-bits
decreases-loop-bits l = l.words - vec_len l.bits

abbrev pub invariant-loop-bits : goal.invariant-loop-bits
invariant-loop-bits l = (place : ℕ) → has_bit_of l.bits.items place ≡ has_bit_of l.initial.bits.items place
