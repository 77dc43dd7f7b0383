use Rattle.walk_enum.specs.Inner.Turns.{row_of}
use Rattle.walk_enum.proofs.Turning.{Descends}
use Rattle.walk_enum.proofs.table.Table.descend.Given as goal

abbrev pub invariant-loop-place : goal.invariant-loop-place
invariant-loop-place l = Descends (row_of l.self.rows.items) l.self.to l.self.step_count l.from l.fn.walk l.walk l.place
