use Rattle.std.proofs.Common.{◌≡◌, ◌≤◌, ◌*◌, take}
use Rattle.info_summary.specs.Counts.{path_count}
use Rattle.info_summary.proofs.context_counts.path_count.Given as goal

-- each has fewer than 2 ^ 32
abbrev pub invariant-loop-i : goal.invariant-loop-i
invariant-loop-i l = record { counted : l.count ≡ path_count (take l.i l.systems); small : l.count ≤ 4294967295 * l.i }
