use Rattle.std.proofs.Common.{◌∙◌, ◌++◌, ◌∷◌, [], List, take, ap, sym}
use Rattle.std.proofs.lemmas.List.{take_more}
use Rattle.std.proofs.lemmas.Option.{get_or_from_slice_get, slice_get_within}
use Rattle.pol_expr.specs.declared.condition_rec.ConditionItem.{ConditionItem}
use Rattle.pol_expr.proofs.condition_view.ConditionView.rec.Goals as goal

pub loop-i-preserved : goal.loop-i-preserved
loop-i-preserved c =
    let items = c.args.self.now.value.items in
    let x = c.item.result in
    let here = get_or_from_slice_get items c.loop-i.i x x c.item.ensures in
    let more = take_more items c.loop-i.i x (slice_get_within items c.loop-i.i x c.item.ensures) in
    c.in_ok-push.ensures.items ∙ ap (λ (xs : List ConditionItem). xs ++ x ∷ []) c.loop-i.invariant ∙ sym (more ∙ ap (λ (m : ConditionItem). take c.loop-i.i items ++ m ∷ []) here)
