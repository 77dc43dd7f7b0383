use Rattle.pol_bitmap.specs.Nodes.{bits_of}
use Rattle.walk_enum.proofs.Spreading.{SpreadsUpTo}
use Rattle.walk_enum.proofs.spread.spread_each.Given as goal

abbrev pub invariant-loop-node : goal.invariant-loop-node
invariant-loop-node l = SpreadsUpTo l.initial.depths.items l.depths.items l.initial.queue.items l.queue.items (bits_of l.found) l.node-iterator l.depth
