use Rattle.std.proofs.Common.{◌≡◌, ◌+◌, ◌-◌}
use Rattle.pol_bitmap.specs.Nodes.{bits_of}
use Rattle.walk_enum.specs.Walks.{successors_of}
use Rattle.walk_enum.specs.Inner.Exploring.{Explores, AreFound}
use Rattle.walk_enum.proofs.explore.explore.Given as goal

abbrev pub invariant-asking : goal.invariant-asking
invariant-asking g l = record {
  explores : Explores (successors_of (g.G.Graph.edge l.graph) (g.G.Graph.nodes l.graph)) (g.G.Graph.nodes l.graph) l.from l.to l.depths.items l.queue.items l.rows.items l.head;
  known : AreFound l.depths.items (bits_of l.known);
  cost : l.steps ≡ l.initial.steps + l.head;
}

abbrev pub decreases-asking : goal.decreases-asking
decreases-asking g l = g.G.Graph.nodes l.graph - l.head
