use Rattle.pol_expand.specs.Inner.Inverting.{AreWords}
use Rattle.pol_expand.proofs.building.words_of.Given as goal

abbrev pub invariant-loop-place : goal.invariant-loop-place
invariant-loop-place l = AreWords l.rows l.types l.start l.place l.words.items
