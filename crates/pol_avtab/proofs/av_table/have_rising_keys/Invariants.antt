use Rattle.std.proofs.Common.{take}
use Rattle.pol_avtab.specs.Inner.DuplicateKeys.{words_of, AreRising}
use Rattle.pol_avtab.proofs.av_table.have_rising_keys.Given as goal

abbrev pub invariant-loop-i : goal.invariant-loop-i
invariant-loop-i l = AreRising l.last (words_of (take l.i l.table))
