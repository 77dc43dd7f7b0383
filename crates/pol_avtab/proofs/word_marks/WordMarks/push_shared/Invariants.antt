use Rattle.pol_avtab.specs.Inner.DuplicateKeys.{is_shared}
use Rattle.pol_avtab.proofs.SharedFirst.{AreSifted}
use Rattle.pol_avtab.proofs.word_marks.WordMarks.push_shared.Given as goal

-- the shared ones of the words before stand at the front
abbrev pub invariant-loop-i : goal.invariant-loop-i
invariant-loop-i l = AreSifted (is_shared l.self) l.initial.words l.i l.count l.words
