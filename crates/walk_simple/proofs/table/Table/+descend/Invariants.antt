use Rattle.std.proofs.Common.{◌+◌, ◌*◌}
use Rattle.walk_enum.specs.Inner.Turns.{row_of}
use Rattle.walk_simple.proofs.Going.{Tries}
use Rattle.walk_simple.proofs.table.Table.+descend.Given as goal

abbrev pub invariant-enter-loop-place : goal.invariant-enter-loop-place
invariant-enter-loop-place l = Tries (row_of l.self.rows.items) l.self.to l.left l.first l.initial.walk l.walk l.place

abbrev pub decreases-descend : goal.decreases-descend
decreases-descend l = 3 * l.left

abbrev pub decreases-enter : goal.decreases-enter
decreases-enter l = 3 * l.left + 2

abbrev pub decreases-step : goal.decreases-step
decreases-step l = 3 * l.left + 1
