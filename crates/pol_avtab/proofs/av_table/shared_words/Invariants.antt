use Rattle.std.proofs.Common.{◌≡◌, ◌-◌, ◌≤◌, length, take}
use Rattle.std.specs.List.{filter}
use Rattle.pol_avtab.specs.Inner.DuplicateKeys.{words_of, is_shared}
use Rattle.pol_avtab.proofs.av_table.shared_words.Given as goal

abbrev pub invariant-loop-i : goal.invariant-loop-i
invariant-loop-i l = (l.i ≤ length l.table) × (l.found.items ≡ filter (is_shared l.marks) (words_of (take l.i l.table)))

abbrev pub decreases-loop-i : goal.decreases-loop-i
decreases-loop-i l = length l.table - l.i
