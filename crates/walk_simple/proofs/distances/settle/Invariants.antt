use Rattle.walk_enum.specs.Inner.Turns.{row_of}
use Rattle.walk_simple.proofs.Settling.{SettlesTo}
use Rattle.walk_simple.proofs.distances.settle.Given as goal

abbrev pub invariant-loop-node : goal.invariant-loop-node
invariant-loop-node l = SettlesTo (row_of l.rows) l.initial.far.items l.far.items l.steps l.node
