use Rattle.std.proofs.Common.{◌≡◌, ◌++◌, take}
use Rattle.pol_avtab.specs.Inner.DuplicateKeys.{words_of}
use Rattle.pol_avtab.proofs.av_table.next_words.Given as goal

abbrev pub invariant-loop-i : goal.invariant-loop-i
invariant-loop-i l = words_of (take l.i l.table) ≡ words_of (take l.from l.table) ++ l.words.items
