use Rattle.std.proofs.Common.{ℕ, List, [], refl, subst, arith}
use Rattle.std.specs.List.{range_with_len}
use Rattle.walk_enum.specs.Walks.{successors_of}
use Rattle.walk_enum.specs.Inner.Turns.{row_of}
use Rattle.walk_enum.proofs.Ascending.{ascends_filter, ascends_range}
use Rattle.walk_simple.specs.Inner.Tables.{AreBounds}
use Rattle.walk_simple.proofs.Covering.{same_along, covers_rise}
use Rattle.walk_simple.proofs.simple.Simple.new.Goals as goal

pub invariant_of-result : goal.invariant_of-result
invariant_of-result g c =
    let edge = g.G.Graph.edge c.args.graph.now in
    let nodes = g.G.Graph.nodes c.args.graph.now in (
      record {
        rising = covers_rise (successors_of edge nodes) c.args.from c.args.most c.in_ok-rows.rows.items (λ a. ascends_filter (edge a) (range_with_len 1 nodes) (ascends_range 1 nodes)) c.in_ok-rows.ensures.covers;
        bounds = subst (λ (rs : List (List ℕ)). AreBounds (row_of rs) c.args.to c.in_ok-far.far.items) c.deref.ensures.value c.in_ok-far.ensures;
      },
      c.requires.most_high,
    )

pub returns-clause-walks : goal.returns-clause-walks
returns-clause-walks g c =
    let edge = g.G.Graph.edge c.args.graph.now in
    let nodes = g.G.Graph.nodes c.args.graph.now in
    same_along (successors_of edge nodes) c.args.from c.args.most c.in_ok-rows.rows.items c.in_ok-rows.ensures.covers [] c.args.from c.args.to 0 c.args.most (omega arith) refl
