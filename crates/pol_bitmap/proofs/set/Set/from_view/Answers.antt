use Rattle.std.proofs.Common.{◌≡◌, take, ap, sym, ◌∙◌, ◌++◌, ◌∷◌, [], List, arith}
use Rattle.std.proofs.lemmas.List.{take_more, take_all}
use Rattle.std.proofs.lemmas.Option.{get_or_from_slice_get, slice_get_within}
use Rattle.pol_bitmap.specs.declared.node.Node.{Node}
use Rattle.pol_bitmap.proofs.Merging.{fits-more}
use Rattle.pol_bitmap.proofs.set.Set.from_view.Goals as goal

pub loop-i-preserved : goal.loop-i-preserved
loop-i-preserved c =
    let ns = c.args.view.now in
    let n = c.node.result in
    let here = get_or_from_slice_get ns c.loop-i.i n n c.node.ensures.is in
    let more = take_more ns c.loop-i.i n (slice_get_within ns c.loop-i.i n c.node.ensures.is) in (
      c.in_ok-push.ensures.items ∙ ap (λ (xs : List Node). xs ++ n ∷ []) c.loop-i.invariant.0 ∙ sym (more ∙ ap (λ (m : Node). take c.loop-i.i ns ++ m ∷ []) here),
      rw c.in_ok-push.ensures.items (fits-more c.loop-i.nodes.items (n ∷ []) c.loop-i.invariant.1 ((omega arith, omega arith), tt)),
    )

pub from_nodes-requires : goal.from_nodes-requires
from_nodes-requires c =
    let all : c.loop-i.nodes.items ≡ c.args.view.now = c.loop-i.invariant.0 ∙ take_all c.loop-i.i c.args.view.now (omega arith) in
    (rw all c.node_count.ensures.rising, c.loop-i.invariant.1)
