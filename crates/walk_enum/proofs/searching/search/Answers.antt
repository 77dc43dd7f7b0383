use Rattle.std.proofs.Common.{◌≡◌, ◌≤◌, ◌-◌, ℕ, List, arith, ap, sym, ◌∙◌, length, refl}
use Rattle.std.specs.Prelude.{slice_index}
use Rattle.walk_enum.specs.Walks.{successors_of, walks_along}
use Rattle.walk_enum.specs.Inner.Turns.{row_of}
use Rattle.walk_enum.specs.Inner.Exploring.{Explores, IsAtEnd}
use Rattle.walk_enum.proofs.Exploring.{depth_small}
use Rattle.walk_enum.proofs.Finding.{queue_fits, depths_few, answer_none, answer_some, answer_layers, answer_ordered, answer_walks}
use Rattle.walk_enum.proofs.searching.search.Goals as goal

pub returns-then-depth-eq0-clause-none : goal.returns-then-depth-eq0-clause-none
returns-then-depth-eq0-clause-none g c =
    let edge = g.G.Graph.edge c.args.graph.now in
    let nodes = g.G.Graph.nodes c.args.graph.now in
    let f = c.in_ok-found.found in
    let e : Explores (successors_of edge nodes) nodes c.args.from c.args.to f.depths.items f.queue.items f.rows.items (length f.rows.items) = c.in_ok-found.ensures.found in
    let end : IsAtEnd f.depths.items f.queue.items (length f.rows.items) c.args.to = c.in_ok-found.ensures.end in
    let depth : c.number_at-depth.result ≡ slice_index f.depths.items c.args.to = c.number_at-depth.ensures ∙ ap (λ (d : List ℕ). slice_index d c.args.to) c.deref.ensures.value in
    ((λ _. answer_none edge nodes c.args.from c.args.to f.depths.items f.queue.items f.rows.items e end (sym depth ∙ c.if-depth-eq0.true)), (λ _. refl))

pub cut-requires-clause-queue : goal.cut-requires-clause-queue
cut-requires-clause-queue g c =
    let edge = g.G.Graph.edge c.args.graph.now in
    let nodes = g.G.Graph.nodes c.args.graph.now in
    let f = c.in_ok-found.found in
    let e : Explores (successors_of edge nodes) nodes c.args.from c.args.to f.depths.items f.queue.items f.rows.items (length f.rows.items) = c.in_ok-found.ensures.found in
    let end : IsAtEnd f.depths.items f.queue.items (length f.rows.items) c.args.to = c.in_ok-found.ensures.end in
    e.within

pub cut-requires-clause-fits : goal.cut-requires-clause-fits
cut-requires-clause-fits g c =
    let edge = g.G.Graph.edge c.args.graph.now in
    let nodes = g.G.Graph.nodes c.args.graph.now in
    let f = c.in_ok-found.found in
    let e : Explores (successors_of edge nodes) nodes c.args.from c.args.to f.depths.items f.queue.items f.rows.items (length f.rows.items) = c.in_ok-found.ensures.found in
    let end : IsAtEnd f.depths.items f.queue.items (length f.rows.items) c.args.to = c.in_ok-found.ensures.end in
    queue_fits edge nodes c.args.from c.args.to f.depths.items f.queue.items f.rows.items e

pub cut-requires-clause-shallow : goal.cut-requires-clause-shallow
cut-requires-clause-shallow g c =
    let edge = g.G.Graph.edge c.args.graph.now in
    let nodes = g.G.Graph.nodes c.args.graph.now in
    let f = c.in_ok-found.found in
    let e : Explores (successors_of edge nodes) nodes c.args.from c.args.to f.depths.items f.queue.items f.rows.items (length f.rows.items) = c.in_ok-found.ensures.found in
    let end : IsAtEnd f.depths.items f.queue.items (length f.rows.items) c.args.to = c.in_ok-found.ensures.end in
    depths_few edge nodes c.args.from c.args.to f.depths.items f.queue.items f.rows.items e c.in_ok-found.ensures.few

pub overflow_cast-depth : goal.overflow_cast-depth
overflow_cast-depth g c =
    let edge = g.G.Graph.edge c.args.graph.now in
    let nodes = g.G.Graph.nodes c.args.graph.now in
    let f = c.in_ok-found.found in
    let e : Explores (successors_of edge nodes) nodes c.args.from c.args.to f.depths.items f.queue.items f.rows.items (length f.rows.items) = c.in_ok-found.ensures.found in
    let end : IsAtEnd f.depths.items f.queue.items (length f.rows.items) c.args.to = c.in_ok-found.ensures.end in
    let depth : c.number_at-depth.result ≡ slice_index f.depths.items c.args.to = c.number_at-depth.ensures ∙ ap (λ (d : List ℕ). slice_index d c.args.to) c.deref.ensures.value in
    omega (arith, depth, depth_small (successors_of edge nodes) nodes c.args.from c.args.to f.depths.items f.queue.items f.rows.items (length f.rows.items) e c.args.to, c.in_ok-found.ensures.few)

pub new-requires-clause-layers : goal.new-requires-clause-layers
new-requires-clause-layers g c =
    let edge = g.G.Graph.edge c.args.graph.now in
    let nodes = g.G.Graph.nodes c.args.graph.now in
    let f = c.in_ok-found.found in
    let e : Explores (successors_of edge nodes) nodes c.args.from c.args.to f.depths.items f.queue.items f.rows.items (length f.rows.items) = c.in_ok-found.ensures.found in
    let end : IsAtEnd f.depths.items f.queue.items (length f.rows.items) c.args.to = c.in_ok-found.ensures.end in
    let depth : c.number_at-depth.result ≡ slice_index f.depths.items c.args.to = c.number_at-depth.ensures ∙ ap (λ (d : List ℕ). slice_index d c.args.to) c.deref.ensures.value in
    let some : 1 ≤ slice_index f.depths.items c.args.to = omega (arith, depth, c.if-depth-eq0.false) in
    let k : c.number_at-depth.result - 1 ≡ slice_index f.depths.items c.args.to - 1 = omega (arith, depth) in
    rw k (answer_layers edge nodes c.args.from c.args.to f.depths.items f.queue.items f.rows.items e end some c.in_ok-rows.rows.items c.in_ok-rows.ensures c.in_ok-found.ensures.few)

pub new-requires-clause-ordered : goal.new-requires-clause-ordered
new-requires-clause-ordered g c =
    let edge = g.G.Graph.edge c.args.graph.now in
    let nodes = g.G.Graph.nodes c.args.graph.now in
    let f = c.in_ok-found.found in
    let e : Explores (successors_of edge nodes) nodes c.args.from c.args.to f.depths.items f.queue.items f.rows.items (length f.rows.items) = c.in_ok-found.ensures.found in
    let end : IsAtEnd f.depths.items f.queue.items (length f.rows.items) c.args.to = c.in_ok-found.ensures.end in
    let depth : c.number_at-depth.result ≡ slice_index f.depths.items c.args.to = c.number_at-depth.ensures ∙ ap (λ (d : List ℕ). slice_index d c.args.to) c.deref.ensures.value in
    let some : 1 ≤ slice_index f.depths.items c.args.to = omega (arith, depth, c.if-depth-eq0.false) in
    answer_ordered edge nodes c.args.from c.args.to f.depths.items f.queue.items f.rows.items e end some c.in_ok-rows.rows.items c.in_ok-rows.ensures

pub returns-clause-none : goal.returns-clause-none
returns-clause-none g c =
    let edge = g.G.Graph.edge c.args.graph.now in
    let nodes = g.G.Graph.nodes c.args.graph.now in
    let f = c.in_ok-found.found in
    let e : Explores (successors_of edge nodes) nodes c.args.from c.args.to f.depths.items f.queue.items f.rows.items (length f.rows.items) = c.in_ok-found.ensures.found in
    let end : IsAtEnd f.depths.items f.queue.items (length f.rows.items) c.args.to = c.in_ok-found.ensures.end in
    let depth : c.number_at-depth.result ≡ slice_index f.depths.items c.args.to = c.number_at-depth.ensures ∙ ap (λ (d : List ℕ). slice_index d c.args.to) c.deref.ensures.value in
    let some : 1 ≤ slice_index f.depths.items c.args.to = omega (arith, depth, c.if-depth-eq0.false) in
    let k : c.number_at-depth.result - 1 ≡ slice_index f.depths.items c.args.to - 1 = omega (arith, depth) in
    ((λ same. absurd cc), (λ none. absurd (answer_some edge nodes c.args.from c.args.to f.depths.items f.queue.items f.rows.items e end some none)))

pub returns-clause-some : goal.returns-clause-some
returns-clause-some g c =
    let edge = g.G.Graph.edge c.args.graph.now in
    let nodes = g.G.Graph.nodes c.args.graph.now in
    let f = c.in_ok-found.found in
    let e : Explores (successors_of edge nodes) nodes c.args.from c.args.to f.depths.items f.queue.items f.rows.items (length f.rows.items) = c.in_ok-found.ensures.found in
    let end : IsAtEnd f.depths.items f.queue.items (length f.rows.items) c.args.to = c.in_ok-found.ensures.end in
    let depth : c.number_at-depth.result ≡ slice_index f.depths.items c.args.to = c.number_at-depth.ensures ∙ ap (λ (d : List ℕ). slice_index d c.args.to) c.deref.ensures.value in
    let some : 1 ≤ slice_index f.depths.items c.args.to = omega (arith, depth, c.if-depth-eq0.false) in
    let k : c.number_at-depth.result - 1 ≡ slice_index f.depths.items c.args.to - 1 = omega (arith, depth) in
    c.new.ensures ∙ ap (walks_along (row_of c.in_ok-rows.rows.items) c.args.from c.args.to) k ∙ answer_walks edge nodes c.args.from c.args.to f.depths.items f.queue.items f.rows.items e end some c.in_ok-rows.rows.items c.in_ok-rows.ensures
