use Rattle.std.proofs.Common.{drop}
use Rattle.walk_enum.proofs.Spreading.{SpreadsUpTo}
use Rattle.walk_simple.proofs.spread.spread.Given as goal

abbrev pub invariant-loop-node : goal.invariant-loop-node
invariant-loop-node l = SpreadsUpTo l.initial.marks.items l.marks.items l.initial.queue.items l.queue.items l.row (drop l.node-index l.row) 1
