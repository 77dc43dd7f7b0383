use Rattle.std.proofs.Common.{◌∙◌}
use Rattle.pol_symtab.proofs.TakenBits.{bits_grown}
use Rattle.pol_symtab.proofs.taken_values.grow.Goals as goal

pub loop-bits-preserved : goal.loop-bits-preserved
loop-bits-preserved c place = rw c.in_ok-push.ensures.items (bits_grown c.loop-bits.bits.items place ∙ c.loop-bits.invariant place)
