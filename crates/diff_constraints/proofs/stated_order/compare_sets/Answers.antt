use Rattle.std.proofs.Common.{sym, ◌∙◌, arith}
use Rattle.diff_constraints.proofs.StatedOrder.{ended}
use Rattle.diff_constraints.proofs.stated_order.compare_sets.Goals as goal

pub returns : goal.returns
returns c =
    c.cmp.ensures
    ∙ sym (ended c.loop-i.i c.args.sets.now c.args.others.now (omega (arith, c.loop-i-test.false, c.loop-i.auto.i-end, c.min-i-end.ensures)))
    ∙ c.loop-i.invariant
