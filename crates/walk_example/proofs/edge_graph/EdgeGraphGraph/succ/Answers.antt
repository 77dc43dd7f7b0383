use Rattle.std.proofs.Common.{◌≤◌, List, sym, subst, IfOk}
use Rattle.std.proofs.lemmas.Result.{IfOk-weaker}
use Rattle.pol_bitmap.specs.declared.Node.{Node}
use Rattle.pol_bitmap.specs.Nodes.{bits_of}
use Rattle.walk_enum.specs.Walks.{AreSuccessors}
use Rattle.walk_example.specs.Edges.{node_count, has_edge}
use Rattle.walk_example.proofs.Adding.{row_shared}
use Rattle.walk_example.proofs.edge_graph.EdgeGraphGraph.succ.Goals as goal

pub returns-clause-found : goal.returns-clause-found
returns-clause-found g c =
    let sets : List (List Node) = c.self.inside.successors.items in
    let high : c.args.node ≤ node_count sets = subst (λ (l : List (List Node)). c.args.node ≤ node_count l) (sym c.self.view_is) c.requires.high in
    subst (λ (l : List (List Node)). IfOk c.share.result (λ set. AreSuccessors (has_edge l) c.args.node (bits_of set))) c.self.view_is
    (IfOk-weaker c.share.result _ _ (λ set is. row_shared sets c.args.node set c.index.result.now c.self.invariant.2 c.requires.low high c.index.ensures is) c.share.ensures.same)
