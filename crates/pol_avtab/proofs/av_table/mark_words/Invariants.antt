use Rattle.std.proofs.Common.{◌-◌, ◌≤◌, length, take}
use Rattle.pol_avtab.specs.Inner.DuplicateKeys.{words_of, AreMarked}
use Rattle.pol_avtab.proofs.av_table.mark_words.Given as goal

abbrev pub invariant-loop-i : goal.invariant-loop-i
invariant-loop-i l = (l.i ≤ length l.table) × AreMarked l.marks (words_of (take l.i l.table))

abbrev pub decreases-loop-i : goal.decreases-loop-i
decreases-loop-i l = length l.table - l.i
