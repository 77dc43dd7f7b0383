use Rattle.std.proofs.Common.{◌≡◌, ◌+◌}
use Rattle.walk_enum.specs.Walks.{successors_of}
use Rattle.walk_simple.specs.Inner.Searching.{Searches, IsGrown}
use Rattle.walk_simple.proofs.search.ask_found.Given as goal

abbrev pub invariant-loop-place : goal.invariant-loop-place
invariant-loop-place g l = record {
  searches : Searches (successors_of (g.G.Graph.edge l.graph) (g.G.Graph.nodes l.graph)) (g.G.Graph.nodes l.graph) l.marks.items l.queue.items l.rows.items l.place;
  grown : IsGrown l.initial.queue.items l.queue.items;
  cost : l.steps + l.head ≡ l.initial.steps + l.place;
}
