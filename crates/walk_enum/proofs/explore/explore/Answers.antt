use Rattle.std.proofs.Common.{◌≡◌, ◌≤◌, ◌<◌, ◌+◌, ◌++◌, ◌∷◌, [], ℕ, List, arith, ap, sym, subst, ◌∙◌, length, get_or, set, replicate}
use Rattle.std.specs.Prelude.{slice_index}
use Rattle.std.specs.List.{All, Contains}
use Rattle.std.proofs.lemmas.List.{get_or_default}
use Rattle.std.proofs.lemmas.List.Elements.{Contains-get_or}
use Rattle.walk_enum.specs.Walks.{successors_of}
use Rattle.walk_enum.specs.Inner.Exploring.{Explores, GoesOn, Spreads}
use Rattle.walk_enum.proofs.Elements.{not_in_nothing}
use Rattle.walk_enum.proofs.Rows.{ends_fit, ends_fit_at}
use Rattle.walk_enum.proofs.Exploring.{explores_start, explores_more, queue_small}
use Rattle.walk_enum.proofs.explore.explore.Goals as goal

pub asking-init : goal.asking-init
asking-init g c =
    let next = successors_of (g.G.Graph.edge c.args.graph.now) (g.G.Graph.nodes c.args.graph.now) in
    let nodes = g.G.Graph.nodes c.args.graph.now in
    let depths = set c.in_ok-depths.depths.items c.args.from 1 in
    let made : depths ≡ set (replicate (nodes + 1) 0) c.args.from 1 =
    ap (λ (d : List ℕ). set d c.args.from 1) (c.in_ok-depths.ensures ∙ ap (λ (n : ℕ). replicate (n + 1) 0) c.size-size.ensures) in
    let queue : c.push.new.self.items ≡ c.args.from ∷ [] = c.in_ok-push.ensures.items ∙ ap (λ (q : List ℕ). q ++ c.args.from ∷ []) c.new-queue.ensures.items in
    record {
      explores = subst (λ (rs : List (List ℕ)). Explores next nodes c.args.from c.args.to depths c.push.new.self.items rs 0) (sym c.new-rows.ensures.items)
          (subst (λ (q : List ℕ). Explores next nodes c.args.from c.args.to depths q [] 0) (sym queue) (explores_start next nodes c.args.from c.args.to depths c.requires.from_low c.requires.from_high made));
      known = record { each = λ b has. not_in_nothing b (subst (λ (l : List ℕ). Contains l b) c.in_ok-known.ensures.bits has) };
      cost = omega arith;
    }

pub ask-requires-clause-low : goal.ask-requires-clause-low
ask-requires-clause-low g c =
    let next = successors_of (g.G.Graph.edge c.args.graph.now) (g.G.Graph.nodes c.args.graph.now) in
    let nodes = g.G.Graph.nodes c.args.graph.now in
    let depths = c.asking.depths.items in
    let queue = c.asking.queue.items in
    let rows = c.asking.rows.items in
    let head = c.asking.head in
    let e : Explores next nodes c.args.from c.args.to depths queue rows head = c.asking.invariant.explores in
    let small : length queue ≤ nodes = queue_small next nodes c.args.from c.args.to depths queue rows head e in
    let goes : GoesOn depths queue head c.args.to = subst (λ (q : List ℕ). GoesOn depths q head c.args.to) c.deref-in-asking.ensures.value
    (subst (λ (d : List ℕ). GoesOn d c.deref-in-asking.result.now head c.args.to) c.deref.ensures.value c.asking-test.ensures) in
    let x = slice_index queue head in
    let is : c.index-node.result.now ≡ x = c.index-node.ensures ∙ get_or_default queue head c.index-node.result.now 0 goes.more in
    let r = e.range x (Contains-get_or queue head 0 goes.more) in
    omega (arith, is, r.0)

pub ask-requires-clause-high : goal.ask-requires-clause-high
ask-requires-clause-high g c =
    let next = successors_of (g.G.Graph.edge c.args.graph.now) (g.G.Graph.nodes c.args.graph.now) in
    let nodes = g.G.Graph.nodes c.args.graph.now in
    let depths = c.asking.depths.items in
    let queue = c.asking.queue.items in
    let rows = c.asking.rows.items in
    let head = c.asking.head in
    let e : Explores next nodes c.args.from c.args.to depths queue rows head = c.asking.invariant.explores in
    let small : length queue ≤ nodes = queue_small next nodes c.args.from c.args.to depths queue rows head e in
    let goes : GoesOn depths queue head c.args.to = subst (λ (q : List ℕ). GoesOn depths q head c.args.to) c.deref-in-asking.ensures.value
    (subst (λ (d : List ℕ). GoesOn d c.deref-in-asking.result.now head c.args.to) c.deref.ensures.value c.asking-test.ensures) in
    let x = slice_index queue head in
    let is : c.index-node.result.now ≡ x = c.index-node.ensures ∙ get_or_default queue head c.index-node.result.now 0 goes.more in
    let r = e.range x (Contains-get_or queue head 0 goes.more) in
    omega (arith, is, r.1)

pub returns-in_err-row-clause-cost : goal.returns-in_err-row-clause-cost
returns-in_err-row-clause-cost g c =
    let next = successors_of (g.G.Graph.edge c.args.graph.now) (g.G.Graph.nodes c.args.graph.now) in
    let nodes = g.G.Graph.nodes c.args.graph.now in
    let depths = c.asking.depths.items in
    let queue = c.asking.queue.items in
    let rows = c.asking.rows.items in
    let head = c.asking.head in
    let e : Explores next nodes c.args.from c.args.to depths queue rows head = c.asking.invariant.explores in
    let small : length queue ≤ nodes = queue_small next nodes c.args.from c.args.to depths queue rows head e in
    let goes : GoesOn depths queue head c.args.to = subst (λ (q : List ℕ). GoesOn depths q head c.args.to) c.deref-in-asking.ensures.value
    (subst (λ (d : List ℕ). GoesOn d c.deref-in-asking.result.now head c.args.to) c.deref.ensures.value c.asking-test.ensures) in
    omega (arith, small, goes.more, c.asking.invariant.cost, c.in_err-row.ensures.step)

pub index-requires : goal.index-requires
index-requires g c =
    let next = successors_of (g.G.Graph.edge c.args.graph.now) (g.G.Graph.nodes c.args.graph.now) in
    let nodes = g.G.Graph.nodes c.args.graph.now in
    let depths = c.asking.depths.items in
    let queue = c.asking.queue.items in
    let rows = c.asking.rows.items in
    let head = c.asking.head in
    let e : Explores next nodes c.args.from c.args.to depths queue rows head = c.asking.invariant.explores in
    let small : length queue ≤ nodes = queue_small next nodes c.args.from c.args.to depths queue rows head e in
    let goes : GoesOn depths queue head c.args.to = subst (λ (q : List ℕ). GoesOn depths q head c.args.to) c.deref-in-asking.ensures.value
    (subst (λ (d : List ℕ). GoesOn d c.deref-in-asking.result.now head c.args.to) c.deref.ensures.value c.asking-test.ensures) in
    let x = slice_index queue head in
    let is : c.index-node.result.now ≡ x = c.index-node.ensures ∙ get_or_default queue head c.index-node.result.now 0 goes.more in
    let r = e.range x (Contains-get_or queue head 0 goes.more) in
    omega (arith, is, r.1, e.size, c.asking.depths.ok)

pub overflow_add-depth : goal.overflow_add-depth
overflow_add-depth g c =
    let next = successors_of (g.G.Graph.edge c.args.graph.now) (g.G.Graph.nodes c.args.graph.now) in
    let nodes = g.G.Graph.nodes c.args.graph.now in
    let depths = c.asking.depths.items in
    let queue = c.asking.queue.items in
    let rows = c.asking.rows.items in
    let head = c.asking.head in
    let e : Explores next nodes c.args.from c.args.to depths queue rows head = c.asking.invariant.explores in
    let small : length queue ≤ nodes = queue_small next nodes c.args.from c.args.to depths queue rows head e in
    let goes : GoesOn depths queue head c.args.to = subst (λ (q : List ℕ). GoesOn depths q head c.args.to) c.deref-in-asking.ensures.value
    (subst (λ (d : List ℕ). GoesOn d c.deref-in-asking.result.now head c.args.to) c.deref.ensures.value c.asking-test.ensures) in
    let x = slice_index queue head in
    let is : c.index-node.result.now ≡ x = c.index-node.ensures ∙ get_or_default queue head c.index-node.result.now 0 goes.more in
    let r = e.range x (Contains-get_or queue head 0 goes.more) in
    let within : x < length depths = omega (arith, r.1, e.size) in
    let deep : c.index.result.now ≡ slice_index depths x = c.index.ensures ∙ ap (λ (n : ℕ). get_or depths n c.index.result.now) is ∙ get_or_default depths x c.index.result.now 0 within in
    omega (arith, deep, e.shallow head goes.more, goes.more, small, c.size-size.ensures)

pub spread-requires-clause-range : goal.spread-requires-clause-range
spread-requires-clause-range g c =
    let next = successors_of (g.G.Graph.edge c.args.graph.now) (g.G.Graph.nodes c.args.graph.now) in
    let nodes = g.G.Graph.nodes c.args.graph.now in
    let depths = c.asking.depths.items in
    let queue = c.asking.queue.items in
    let rows = c.asking.rows.items in
    let head = c.asking.head in
    let e : Explores next nodes c.args.from c.args.to depths queue rows head = c.asking.invariant.explores in
    let small : length queue ≤ nodes = queue_small next nodes c.args.from c.args.to depths queue rows head e in
    let row : c.in_ok-row.row ≡ next c.index-node.result.now = c.in_ok-row.ensures.found in
    subst (All (λ (b : ℕ). b < length depths)) (sym row) (ends_fit (g.G.Graph.edge c.args.graph.now) nodes c.index-node.result.now (length depths) e.size)

pub returns-in_err-spread-clause-cost : goal.returns-in_err-spread-clause-cost
returns-in_err-spread-clause-cost g c =
    let next = successors_of (g.G.Graph.edge c.args.graph.now) (g.G.Graph.nodes c.args.graph.now) in
    let nodes = g.G.Graph.nodes c.args.graph.now in
    let depths = c.asking.depths.items in
    let queue = c.asking.queue.items in
    let rows = c.asking.rows.items in
    let head = c.asking.head in
    let e : Explores next nodes c.args.from c.args.to depths queue rows head = c.asking.invariant.explores in
    let small : length queue ≤ nodes = queue_small next nodes c.args.from c.args.to depths queue rows head e in
    let goes : GoesOn depths queue head c.args.to = subst (λ (q : List ℕ). GoesOn depths q head c.args.to) c.deref-in-asking.ensures.value
    (subst (λ (d : List ℕ). GoesOn d c.deref-in-asking.result.now head c.args.to) c.deref.ensures.value c.asking-test.ensures) in
    omega (arith, small, goes.more, c.asking.invariant.cost, c.in_ok-row.ensures.step)

pub returns-in_err-push-2-clause-cost : goal.returns-in_err-push-2-clause-cost
returns-in_err-push-2-clause-cost g c =
    let next = successors_of (g.G.Graph.edge c.args.graph.now) (g.G.Graph.nodes c.args.graph.now) in
    let nodes = g.G.Graph.nodes c.args.graph.now in
    let depths = c.asking.depths.items in
    let queue = c.asking.queue.items in
    let rows = c.asking.rows.items in
    let head = c.asking.head in
    let e : Explores next nodes c.args.from c.args.to depths queue rows head = c.asking.invariant.explores in
    let small : length queue ≤ nodes = queue_small next nodes c.args.from c.args.to depths queue rows head e in
    let goes : GoesOn depths queue head c.args.to = subst (λ (q : List ℕ). GoesOn depths q head c.args.to) c.deref-in-asking.ensures.value
    (subst (λ (d : List ℕ). GoesOn d c.deref-in-asking.result.now head c.args.to) c.deref.ensures.value c.asking-test.ensures) in
    omega (arith, small, goes.more, c.asking.invariant.cost, c.in_ok-row.ensures.step)

pub asking-smaller : goal.asking-smaller
asking-smaller g c =
    let next = successors_of (g.G.Graph.edge c.args.graph.now) (g.G.Graph.nodes c.args.graph.now) in
    let nodes = g.G.Graph.nodes c.args.graph.now in
    let depths = c.asking.depths.items in
    let queue = c.asking.queue.items in
    let rows = c.asking.rows.items in
    let head = c.asking.head in
    let e : Explores next nodes c.args.from c.args.to depths queue rows head = c.asking.invariant.explores in
    let small : length queue ≤ nodes = queue_small next nodes c.args.from c.args.to depths queue rows head e in
    let goes : GoesOn depths queue head c.args.to = subst (λ (q : List ℕ). GoesOn depths q head c.args.to) c.deref-in-asking.ensures.value
    (subst (λ (d : List ℕ). GoesOn d c.deref-in-asking.result.now head c.args.to) c.deref.ensures.value c.asking-test.ensures) in
    omega (arith, small, goes.more)

pub asking-preserved : goal.asking-preserved
asking-preserved g c =
    let next = successors_of (g.G.Graph.edge c.args.graph.now) (g.G.Graph.nodes c.args.graph.now) in
    let nodes = g.G.Graph.nodes c.args.graph.now in
    let depths = c.asking.depths.items in
    let queue = c.asking.queue.items in
    let rows = c.asking.rows.items in
    let head = c.asking.head in
    let e : Explores next nodes c.args.from c.args.to depths queue rows head = c.asking.invariant.explores in
    let small : length queue ≤ nodes = queue_small next nodes c.args.from c.args.to depths queue rows head e in
    let goes : GoesOn depths queue head c.args.to = subst (λ (q : List ℕ). GoesOn depths q head c.args.to) c.deref-in-asking.ensures.value
    (subst (λ (d : List ℕ). GoesOn d c.deref-in-asking.result.now head c.args.to) c.deref.ensures.value c.asking-test.ensures) in
    let x = slice_index queue head in
    let is : c.index-node.result.now ≡ x = c.index-node.ensures ∙ get_or_default queue head c.index-node.result.now 0 goes.more in
    let r = e.range x (Contains-get_or queue head 0 goes.more) in
    let within : x < length depths = omega (arith, r.1, e.size) in
    let deep : c.index.result.now ≡ slice_index depths x = c.index.ensures ∙ ap (λ (n : ℕ). get_or depths n c.index.result.now) is ∙ get_or_default depths x c.index.result.now 0 within in
    let row : c.in_ok-row.row ≡ next x = c.in_ok-row.ensures.found ∙ ap next is in
    let found : c.in_ok-row.row ≡ next x = row in
    let now = c.spread.new.depths.items in
    let queue_new = c.spread.new.queue.items in
    let spreads : Spreads depths now queue queue_new (next x) (slice_index depths x + 1) =
    subst (λ (l : List ℕ). Spreads depths now queue queue_new l (slice_index depths x + 1)) found
    (subst (λ (n : ℕ). Spreads depths now queue queue_new c.in_ok-row.row (n + 1)) deep c.in_ok-spread.ensures.spreads) in
    record {
      explores = subst (λ (rs : List (List ℕ)). Explores next nodes c.args.from c.args.to now queue_new rs (head + 1)) (sym (c.in_ok-push-2.ensures.items ∙ ap (λ (v : List ℕ). rows ++ v ∷ []) row))
          (explores_more next nodes c.args.from c.args.to (λ a b has. ends_fit_at (g.G.Graph.edge c.args.graph.now) nodes a b has) depths now queue queue_new rows head e goes spreads);
      known = c.in_ok-spread.ensures.known;
      cost = omega (arith, c.in_ok-row.ensures.step, c.asking.invariant.cost);
    }

pub returns-clause-cost : goal.returns-clause-cost
returns-clause-cost g c =
    let next = successors_of (g.G.Graph.edge c.args.graph.now) (g.G.Graph.nodes c.args.graph.now) in
    let nodes = g.G.Graph.nodes c.args.graph.now in
    let depths = c.asking.depths.items in
    let queue = c.asking.queue.items in
    let rows = c.asking.rows.items in
    let head = c.asking.head in
    let e : Explores next nodes c.args.from c.args.to depths queue rows head = c.asking.invariant.explores in
    let small : length queue ≤ nodes = queue_small next nodes c.args.from c.args.to depths queue rows head e in
    omega (arith, small, e.within, c.asking.invariant.cost)
