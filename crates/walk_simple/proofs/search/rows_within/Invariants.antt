use Rattle.std.proofs.Common.{◌≡◌, ◌+◌}
use Rattle.walk_enum.specs.Walks.{successors_of}
use Rattle.walk_simple.specs.Inner.Searching.{Searches, Reaches}
use Rattle.walk_simple.proofs.search.rows_within.Given as goal

abbrev pub invariant-loop : goal.invariant-loop
invariant-loop g l = record {
  searches : Searches (successors_of (g.G.Graph.edge l.graph) (g.G.Graph.nodes l.graph)) (g.G.Graph.nodes l.graph) l.marks.items l.queue.items l.rows.items l.head;
  reaches : Reaches (successors_of (g.G.Graph.edge l.graph) (g.G.Graph.nodes l.graph)) l.from l.queue.items l.head l.counter;
  cost : l.steps ≡ l.initial.steps + l.head;
}
