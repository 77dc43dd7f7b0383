use Rattle.std.proofs.Common.{◌-◌, drop}
use Rattle.std.specs.Prelude.{slice_index}
use Rattle.walk_enum.specs.Walks.{walks_along}
use Rattle.walk_enum.specs.Inner.Turns.{row_of, IsLast}
use Rattle.walk_enum.proofs.table.Table.turn_of.Given as goal

abbrev pub invariant-loop-back : goal.invariant-loop-back
invariant-loop-back l = IsLast (walks_along (row_of l.self.rows.items) (slice_index l.walk (l.self.step_count - l.back)) l.self.to l.back) (drop (l.self.step_count - l.back) l.walk)
