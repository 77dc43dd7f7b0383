use Rattle.std.proofs.Common.{◌≡◌, ◌≤◌, ◌*◌, take}
use Rattle.info_summary.specs.Counts.{validatetrans_count}
use Rattle.info_summary.proofs.symbol_counts.validatetrans_count.Given as goal

-- each has fewer than 2 ^ 32
abbrev pub invariant-loop-i : goal.invariant-loop-i
invariant-loop-i l = record { counted : l.count ≡ validatetrans_count (take l.i l.classes.records); small : l.count ≤ 4294967295 * l.i }
