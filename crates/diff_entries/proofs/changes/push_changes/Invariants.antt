use Rattle.std.proofs.Common.{◌≡◌, ◌++◌}
use Rattle.std.specs.List.{flat_map, range_with_len}
use Rattle.diff_entries.specs.Changes.{change_at}
use Rattle.diff_entries.proofs.changes.push_changes.Given as goal

abbrev pub invariant-loop-i : goal.invariant-loop-i
invariant-loop-i l = l.buffer.items ≡ l.fn.buffer.items ++ flat_map (change_at l.first l.second) (range_with_len 0 l.i)
