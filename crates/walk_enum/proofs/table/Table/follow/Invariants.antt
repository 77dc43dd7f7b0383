use Rattle.walk_enum.specs.Walks.{walks_along}
use Rattle.walk_enum.specs.Inner.Turns.{row_of}
use Rattle.walk_enum.proofs.NumberedWalks.{Follows}
use Rattle.walk_enum.proofs.table.Table.follow.Given as goal

abbrev pub invariant-loop-place : goal.invariant-loop-place
invariant-loop-place l = Follows (row_of l.self.rows.items) l.self.to l.self.step_count (walks_along (row_of l.self.rows.items) l.self.from l.self.to l.self.step_count) l.before l.walk l.place l.left
