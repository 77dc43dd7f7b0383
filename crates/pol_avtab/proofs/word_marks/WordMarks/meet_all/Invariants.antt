use Rattle.std.proofs.Common.{ℕ, ◌++◌, List, take}
use Rattle.pol_avtab.specs.Inner.DuplicateKeys.{AreMarked}
use Rattle.pol_avtab.proofs.word_marks.WordMarks.meet_all.Given as goal

abbrev pub invariant-loop-word : goal.invariant-loop-word
invariant-loop-word l = (before : List ℕ) → AreMarked l.initial.self before → AreMarked l.self (before ++ take l.word-index l.words)
