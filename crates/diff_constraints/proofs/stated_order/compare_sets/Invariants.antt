use Rattle.std.proofs.Common.{◌≡◌, drop}
use Rattle.std.specs.Cmp.Lexicographic.{slice_cmp}
use Rattle.diff_entries.specs.Entries.{key_cmp}
use Rattle.diff_constraints.proofs.stated_order.compare_sets.Given as goal

-- what is left compares as the whole does
abbrev pub invariant-loop-i : goal.invariant-loop-i
invariant-loop-i l = slice_cmp key_cmp (drop l.i l.sets) (drop l.i l.others) ≡ slice_cmp key_cmp l.sets l.others
