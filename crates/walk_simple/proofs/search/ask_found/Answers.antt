use Rattle.std.proofs.Common.{◌≡◌, ◌<◌, ℕ, List, arith, ap, sym, subst, ◌∙◌, length}
use Rattle.std.specs.Prelude.{slice_index}
use Rattle.std.specs.List.{All}
use Rattle.std.proofs.lemmas.List.{get_or_default}
use Rattle.walk_enum.specs.Walks.{successors_of}
use Rattle.walk_enum.specs.Inner.Exploring.{Spreads}
use Rattle.walk_enum.proofs.Rows.{ends_fit, ends_fit_at}
use Rattle.walk_simple.specs.Inner.Searching.{Searches}
use Rattle.walk_simple.proofs.Searching.{queue_small, node_fits, searches_more, grown_more, grown_length}
use Rattle.walk_simple.proofs.search.ask_found.Goals as goal

pub ask-requires-clause-low : goal.ask-requires-clause-low
ask-requires-clause-low g c =
    let next = successors_of (g.G.Graph.edge c.args.graph.now) (g.G.Graph.nodes c.args.graph.now) in
    let i = c.loop-place.place in
    let queue = c.loop-place.queue.items in
    let lt : i < length queue = omega (arith, c.loop-place-test.true, c.len-end.ensures, grown_length _ _ c.loop-place.invariant.grown) in
    let is : c.index-node.result.now ≡ slice_index queue i = c.index-node.ensures ∙ get_or_default queue i c.index-node.result.now 0 lt in
    omega (arith, is, (node_fits next _ _ queue _ i i c.loop-place.invariant.searches lt).0)

pub ask-requires-clause-high : goal.ask-requires-clause-high
ask-requires-clause-high g c =
    let next = successors_of (g.G.Graph.edge c.args.graph.now) (g.G.Graph.nodes c.args.graph.now) in
    let i = c.loop-place.place in
    let queue = c.loop-place.queue.items in
    let lt : i < length queue = omega (arith, c.loop-place-test.true, c.len-end.ensures, grown_length _ _ c.loop-place.invariant.grown) in
    let is : c.index-node.result.now ≡ slice_index queue i = c.index-node.ensures ∙ get_or_default queue i c.index-node.result.now 0 lt in
    omega (arith, is, (node_fits next _ _ queue _ i i c.loop-place.invariant.searches lt).1)

pub returns-in_err-row-clause-bound : goal.returns-in_err-row-clause-bound
returns-in_err-row-clause-bound g c =
    let small = queue_small _ _ _ _ _ _ c.loop-place.invariant.searches in
    omega (arith, small, c.loop-place-test.true, c.len-end.ensures, grown_length _ _ c.loop-place.invariant.grown, c.loop-place.invariant.cost, c.ask.ensures.step)

pub returns-in_err-spread-clause-bound : goal.returns-in_err-spread-clause-bound
returns-in_err-spread-clause-bound g c =
    let small = queue_small _ _ _ _ _ _ c.loop-place.invariant.searches in
    omega (arith, small, c.loop-place-test.true, c.len-end.ensures, grown_length _ _ c.loop-place.invariant.grown, c.loop-place.invariant.cost, c.ask.ensures.step)

pub spread-requires : goal.spread-requires
spread-requires g c =
    let nodes = g.G.Graph.nodes c.args.graph.now in
    let row : c.as_slice.result.now ≡ successors_of (g.G.Graph.edge c.args.graph.now) nodes c.index-node.result.now = c.as_slice.ensures ∙ c.in_ok-row.ensures.found in
    subst (All (λ (b : ℕ). b < length c.loop-place.marks.items)) (sym row) (ends_fit (g.G.Graph.edge c.args.graph.now) nodes c.index-node.result.now (length c.loop-place.marks.items) c.loop-place.invariant.searches.size)

pub index_mut-requires : goal.index_mut-requires
index_mut-requires g c =
    let next = successors_of (g.G.Graph.edge c.args.graph.now) (g.G.Graph.nodes c.args.graph.now) in
    let i = c.loop-place.place in
    let queue = c.loop-place.queue.items in
    let lt : i < length queue = omega (arith, c.loop-place-test.true, c.len-end.ensures, grown_length _ _ c.loop-place.invariant.grown) in
    let is : c.index-node.result.now ≡ slice_index queue i = c.index-node.ensures ∙ get_or_default queue i c.index-node.result.now 0 lt in
    omega (arith, is, (node_fits next _ _ queue _ i i c.loop-place.invariant.searches lt).1, c.loop-place.invariant.searches.long, c.loop-place.rows.ok)

pub loop-place-preserved : goal.loop-place-preserved
loop-place-preserved g c =
    let edge = g.G.Graph.edge c.args.graph.now in
    let nodes = g.G.Graph.nodes c.args.graph.now in
    let next = successors_of edge nodes in
    let i = c.loop-place.place in
    let queue = c.loop-place.queue.items in
    let lt : i < length queue = omega (arith, c.loop-place-test.true, c.len-end.ensures, grown_length _ _ c.loop-place.invariant.grown) in
    let is : c.index-node.result.now ≡ slice_index queue i = c.index-node.ensures ∙ get_or_default queue i c.index-node.result.now 0 lt in
    let row : c.in_ok-row.row ≡ next (slice_index queue i) = c.in_ok-row.ensures.found ∙ ap next is in
    let spreads : Spreads c.loop-place.marks.items c.spread.new.marks.items queue c.spread.new.queue.items (next (slice_index queue i)) 1 =
    subst (λ (l : List ℕ). Spreads c.loop-place.marks.items c.spread.new.marks.items queue c.spread.new.queue.items l 1) (c.as_slice.ensures ∙ row) c.in_ok-spread.ensures in
    record {
      searches = rw (is, row) (searches_more next nodes c.loop-place.marks.items c.spread.new.marks.items queue c.spread.new.queue.items c.loop-place.rows.items i c.loop-place.invariant.searches lt (λ a b has. ends_fit_at edge nodes a b has) spreads);
      grown = grown_more _ queue c.spread.new.queue.items spreads.more c.loop-place.invariant.grown spreads.grown;
      cost = omega (arith, c.loop-place.invariant.cost, c.ask.ensures.step);
    }

pub returns-clause-searches : goal.returns-clause-searches
returns-clause-searches g c =
    let end : c.loop-place.place ≡ c.len-end.result = omega (arith, c.loop-place-test.false, c.requires.within, c.len-end.ensures, c.loop-place.auto.place-end) in
    subst (λ (n : ℕ). Searches (successors_of (g.G.Graph.edge c.args.graph.now) (g.G.Graph.nodes c.args.graph.now)) (g.G.Graph.nodes c.args.graph.now) c.loop-place.marks.items c.loop-place.queue.items c.loop-place.rows.items n) end c.loop-place.invariant.searches

pub returns-clause-bound : goal.returns-clause-bound
returns-clause-bound g c =
    let small = queue_small _ _ _ _ _ _ c.loop-place.invariant.searches in
    omega (arith, small, c.loop-place.invariant.searches.within, c.loop-place.invariant.cost)
