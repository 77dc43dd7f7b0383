use Rattle.std.proofs.Common.{◌≤◌, List, sym, subst, arith}
use Rattle.std.proofs.Math.ListN.{length-set}
use Rattle.pol_bitmap.specs.declared.Node.{Node}
use Rattle.walk_example.specs.Edges.{node_count}
use Rattle.walk_example.proofs.Adding.{union_at, added, added_nodes}
use Rattle.walk_example.proofs.edge_graph.EdgeGraph.add.Goals as goal

pub invariant_of-self : goal.invariant_of-self
invariant_of-self c =
    let sets : List (List Node) = c.self.inside.successors.items in
    let low = c.requires.from_low in
    let high : c.args.from ≤ node_count sets = subst (λ (l : List (List Node)). c.args.from ≤ node_count l) (sym c.self.view_is) c.requires.from_high in
    let end : c.args.to ≤ node_count sets = subst (λ (l : List (List Node)). c.args.to ≤ node_count l) (sym c.self.view_is) c.requires.to_high in
    let union = union_at sets c.args.from c.index.result.now c.in_ok-end.end c.in_ok-more.more low high c.index.ensures c.in_ok-more.ensures.bits in
    let same = length-set sets c.args.from c.in_ok-more.more in (
      omega (arith, same, c.self.invariant.0),
      omega (arith, same, c.self.invariant.1),
      added_nodes sets c.args.from c.args.to c.in_ok-end.end c.in_ok-more.more c.self.invariant.2 (omega (arith, low, high)) c.requires.to_low end c.in_ok-end.ensures.bits union,
    )

pub returns-clause-ok : goal.returns-clause-ok
returns-clause-ok c =
    let sets : List (List Node) = c.self.inside.successors.items in
    let low = c.requires.from_low in
    let high : c.args.from ≤ node_count sets = subst (λ (l : List (List Node)). c.args.from ≤ node_count l) (sym c.self.view_is) c.requires.from_high in
    let end : c.args.to ≤ node_count sets = subst (λ (l : List (List Node)). c.args.to ≤ node_count l) (sym c.self.view_is) c.requires.to_high in
    let union = union_at sets c.args.from c.index.result.now c.in_ok-end.end c.in_ok-more.more low high c.index.ensures c.in_ok-more.ensures.bits in
    rw (sym c.self.view_is) (added sets c.args.from c.args.to c.in_ok-end.end c.in_ok-more.more (omega (arith, low, high)) low high c.requires.to_low end c.in_ok-end.ensures.bits union)
