use Rattle.std.proofs.Common.{arith}
use Rattle.walk_example.proofs.Adding.{no_edge, no_nodes}
use Rattle.walk_example.proofs.edge_graph.EdgeGraph.new.Goals as goal

pub invariant_of-result : goal.invariant_of-result
invariant_of-result c =
    (omega (arith, c.loop.invariant.0), omega (arith, c.loop.invariant.0, c.requires), no_nodes _ c.loop.invariant.1)

pub returns-clause-edges : goal.returns-clause-edges
returns-clause-edges c = no_edge _ c.loop.invariant.1
