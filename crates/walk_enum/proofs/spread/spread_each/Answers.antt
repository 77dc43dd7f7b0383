use Rattle.std.proofs.Common.{◌≡◌, ◌<◌, ◌∷◌, List, ℕ, arith, sym, subst, ◌∙◌, length, set}
use Rattle.std.specs.Prelude.{slice_index}
use Rattle.std.proofs.lemmas.List.{get_or_default}
use Rattle.pol_bitmap.specs.Nodes.{bits_of}
use Rattle.walk_enum.proofs.Spreading.{SpreadsUpTo, up_to_none, up_to_new, up_to_old, here_within}
use Rattle.walk_enum.proofs.spread.spread_each.Goals as goal

pub loop-node-init : goal.loop-node-init
loop-node-init c = up_to_none _ _ _ _ _ (c.into_iter-node-iterator.ensures.into_iter_gives ∙ c.bits-node-items.ensures)

pub loop-node-preserved : goal.loop-node-preserved
loop-node-preserved c =
    let old = c.args.depths.now.items in
    let queue = c.args.queue.now.items in
    let now = c.loop-node.depths.items in
    let all = bits_of c.args.found.now in
    let x = c.in-Some.node in
    let is : c.loop-node.node-iterator ≡ x ∷ c.next.new.self = c.in-Some.ensures.steps in
    let within : x < length now = here_within old now queue c.loop-node.queue.items all c.loop-node.node-iterator c.next.new.self c.args.depth x c.loop-node.invariant is c.requires.range in
    let at : c.index.result.now ≡ slice_index now x = c.index.ensures ∙ get_or_default now x c.index.result.now 0 within in
    up_to_old old now queue c.loop-node.queue.items all c.loop-node.node-iterator c.next.new.self c.args.depth x c.loop-node.invariant is (omega (arith, at, c.if-index-eq0.false))

pub loop-node-preserved-in-Continue-1 : goal.loop-node-preserved-in-Continue-1
loop-node-preserved-in-Continue-1 c =
    let old = c.args.depths.now.items in
    let queue = c.args.queue.now.items in
    let now = c.loop-node.depths.items in
    let all = bits_of c.args.found.now in
    let x = c.in-Some.node in
    let is : c.loop-node.node-iterator ≡ x ∷ c.next.new.self = c.in-Some.ensures.steps in
    let within : x < length now = here_within old now queue c.loop-node.queue.items all c.loop-node.node-iterator c.next.new.self c.args.depth x c.loop-node.invariant is c.requires.range in
    let at : c.index.result.now ≡ slice_index now x = c.index.ensures ∙ get_or_default now x c.index.result.now 0 within in
    subst (λ (q : List ℕ). SpreadsUpTo old (set now x c.args.depth) queue q all c.next.new.self c.args.depth) (sym c.in_ok-push.ensures.items)
    (up_to_new old now queue c.loop-node.queue.items all c.loop-node.node-iterator c.next.new.self c.args.depth x c.loop-node.invariant is c.requires.some within (sym at ∙ c.if-index-eq0.true))
