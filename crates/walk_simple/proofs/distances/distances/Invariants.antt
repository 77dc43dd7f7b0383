use Rattle.std.proofs.Common.{◌≡◌, ◌+◌, length}
use Rattle.walk_enum.specs.Inner.Turns.{row_of}
use Rattle.walk_simple.specs.Inner.Distances.{Bounds}
use Rattle.walk_simple.proofs.distances.distances.Given as goal

abbrev pub invariant-loop-steps : goal.invariant-loop-steps
invariant-loop-steps l = (length l.far.items ≡ length l.rows) × Bounds (row_of l.rows) l.to (l.most + 1) l.far.items l.steps
