use Rattle.std.proofs.Common.{◌≡◌, ◌+◌, ◌++◌, ◌∷◌, [], ℕ, List, arith, ap, ◌∙◌, set, replicate}
use Rattle.walk_enum.specs.Walks.{successors_of}
use Rattle.walk_simple.proofs.Searching.{queue_small, searches_start, reaches_start, reaches_more}
use Rattle.walk_simple.proofs.search.rows_within.Goals as goal

pub loop-init : goal.loop-init
loop-init g c =
    let nodes = g.G.Graph.nodes c.args.graph.now in
    let next = successors_of (g.G.Graph.edge c.args.graph.now) nodes in
    let marks = set c.in_ok-marks.marks.items c.args.from 1 in
    let made : marks ≡ set (replicate (nodes + 1) 0) c.args.from 1 =
    ap (λ (d : List ℕ). set d c.args.from 1) (c.in_ok-marks.ensures ∙ ap (λ (n : ℕ). replicate (n + 1) 0) c.size-size.ensures) in
    let queue : c.push.new.self.items ≡ c.args.from ∷ [] = c.in_ok-push.ensures.items ∙ ap (λ (q : List ℕ). q ++ c.args.from ∷ []) c.new-queue.ensures.items in
    record {
      searches = rw queue (searches_start next nodes c.args.from marks c.in_ok-rows.rows.items c.requires.from_low c.requires.from_high made (c.in_ok-rows.ensures.count ∙ ap (λ (n : ℕ). n + 1) c.size-size.ensures) c.in_ok-rows.ensures.empty);
      reaches = rw queue (reaches_start next c.args.from);
      cost = omega arith;
    }

pub loop-preserved : goal.loop-preserved
loop-preserved g c =
    let nodes = g.G.Graph.nodes c.args.graph.now in
    let next = successors_of (g.G.Graph.edge c.args.graph.now) nodes in
    record {
      searches = c.in_ok-head.ensures.searches;
      reaches = reaches_more next nodes c.args.from _ c.loop.queue.items _ _ c.loop.head _ _ c.loop.invariant.reaches c.in_ok-head.ensures.grown c.in_ok-head.ensures.searches c.in_ok-head.ensures.end;
      cost = omega (arith, c.loop.invariant.cost, c.in_ok-head.ensures.cost);
    }

pub returns-clause-cost : goal.returns-clause-cost
returns-clause-cost g c = omega (arith, c.loop.invariant.cost, c.loop.invariant.searches.within, queue_small _ _ _ _ _ _ c.loop.invariant.searches)
