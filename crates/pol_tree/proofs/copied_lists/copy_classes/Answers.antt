use Rattle.std.proofs.Common.{refl}
use Rattle.pol_cursor.proofs.Copies.{copied_next}
use Rattle.pol_tree.proofs.copied_lists.copy_classes.Goals as goal

pub loop-i-preserved : goal.loop-i-preserved
loop-i-preserved c =
    let next = copied_next c.args.classes.now.records c.loop-i.i _ c.view.ensures in
    rw c.in_ok-push.ensures.items (rw next (rw (c.in_ok-rec.ensures, c.loop-i.invariant) refl))
