use Rattle.std.proofs.Common.{◌≡◌, length, ℕ, []}
use Rattle.pol_bitmap.specs.Nodes.{bits_of}
use Rattle.std.specs.Prelude.{slice_index_or}
use Rattle.walk_example.proofs.edge_graph.EdgeGraph.new.Given as goal

abbrev pub invariant-loop : goal.invariant-loop
invariant-loop l = (length l.successors.items ≡ l.counter) × ((a : ℕ) → bits_of (slice_index_or l.successors.items a []) ≡ [])
