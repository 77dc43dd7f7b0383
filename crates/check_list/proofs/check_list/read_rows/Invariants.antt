use Rattle.std.proofs.Common.{◌≡◌, Ok, length}
use Rattle.std.specs.List.{fold}
use Rattle.check_list.specs.Checklists.{after_row, nothing}
use Rattle.check_list.proofs.check_list.read_rows.Given as goal

abbrev pub invariant-loop-row : goal.invariant-loop-row
invariant-loop-row l = (fold after_row (Ok l.written) l.rows.rows ≡ fold after_row (Ok nothing) l.fn.rows.rows) × (l.rows.past ≡ l.fn.rows.past)

abbrev pub decreases-loop-row : goal.decreases-loop-row
decreases-loop-row l = length l.rows.rows
