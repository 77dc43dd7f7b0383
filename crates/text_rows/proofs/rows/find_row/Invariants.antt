use Rattle.std.proofs.Common.{◌≡◌, ◌+◌, length}
use Rattle.text_rows.specs.TextLines.{lines_of, rows_from}
use Rattle.text_rows.proofs.rows.find_row.Given as goal

abbrev pub invariant-loop-line : goal.invariant-loop-line
invariant-loop-line l =
    (rows_from (l.taken + 1) (lines_of l.bytes) ≡ rows_from (l.number + 1) (lines_of l.rest)) × (l.number + length (lines_of l.rest) ≡ l.taken + length (lines_of l.bytes))

abbrev pub decreases-loop-line : goal.decreases-loop-line
decreases-loop-line l = length l.rest
