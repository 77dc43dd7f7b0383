use Rattle.pol_expand.proofs.Gains.{Pushing}
use Rattle.pol_expand.proofs.building.push_words.Given as goal

abbrev pub invariant-loop-bit : goal.invariant-loop-bit
invariant-loop-bit l = Pushing l.bits l.start l.words l.bit-index l.fn.lists l.lists
