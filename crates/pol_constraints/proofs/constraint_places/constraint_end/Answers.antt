use Rattle.std.proofs.Common.{◌+◌, refl, sym, ap, subst, ◌∙◌}
use Rattle.pol_cursor.specs.Parts.{num}
use Rattle.pol_constraints.specs.ConstraintRecord.{item_end, items_end, HasItem}
use Rattle.pol_constraints.proofs.ConstraintPlaces.{HasItems_one, items_end_next}
use Rattle.pol_constraints.proofs.constraint_places.constraint_end.Goals as goal

pub loop-init : goal.loop-init
unfolding items_end
loop-init c = refl

pub item_end-end-requires-clause-item : goal.item_end-end-requires-clause-item
item_end-end-requires-clause-item c =
    let below = rw c.u32_in-count.ensures at c.loop-test.true in
    subst (HasItem c.args.version c.args.bytes.now) (sym c.loop.invariant)
    (HasItems_one c.args.version c.args.bytes.now (c.args.place + 8) (num c.args.bytes.now (c.args.place + 4) 4) c.loop.counter below c.requires.2)

pub loop-preserved : goal.loop-preserved
loop-preserved c =
    c.item_end-end.ensures ∙ ap (item_end c.args.version c.args.bytes.now) c.loop.invariant
    ∙ sym (items_end_next c.args.version c.args.bytes.now (c.args.place + 8) c.loop.counter)
