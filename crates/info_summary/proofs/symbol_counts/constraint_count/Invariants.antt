use Rattle.std.proofs.Common.{◌≡◌, ◌≤◌, ◌*◌, take}
use Rattle.info_summary.specs.Counts.{constraint_count}
use Rattle.info_summary.proofs.symbol_counts.constraint_count.Given as goal

-- each has fewer than 2 ^ 32
abbrev pub invariant-loop-i : goal.invariant-loop-i
invariant-loop-i l = record { counted : l.count ≡ constraint_count (take l.i l.classes.records); small : l.count ≤ 4294967295 * l.i }
