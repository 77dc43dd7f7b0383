use Rattle.std.proofs.Common.{take}
use Rattle.value_groups.proofs.Words.{AreNodesOf}
use Rattle.value_groups.proofs.dense_set.nodes_of.Given as goal

abbrev pub invariant-loop-place : goal.invariant-loop-place
invariant-loop-place l = AreNodesOf (take l.place l.words) l.nodes.items
