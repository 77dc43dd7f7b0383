use Rattle.std.proofs.Common.{length}
use Rattle.pol_bitmap.specs.Nodes.{node_bits}
use Rattle.pol_read.proofs.NodeValues.{Seeking}
use Rattle.pol_read.proofs.declared_value.value_at.Given as goal

abbrev pub invariant-loop-left : goal.invariant-loop-left
invariant-loop-left l = Seeking l.fn.symbols l.fn.node l.left l.fn.n l.before

abbrev pub decreases-loop-left : goal.decreases-loop-left
decreases-loop-left l = length (node_bits l.left)
