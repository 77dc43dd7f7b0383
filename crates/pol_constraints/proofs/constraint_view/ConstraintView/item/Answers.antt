use Rattle.std.proofs.Common.{arith}
use Rattle.pol_constraints.proofs.PassedItems.{passed_next, passed_some}
use Rattle.pol_constraints.proofs.constraint_view.ConstraintView.item.Goals as goal

pub loop-preserved : goal.loop-preserved
loop-preserved c = passed_next c.args.self.now.items c.loop.counter c.loop.items c.next.new.self c.next.result c.loop.invariant c.next.ensures.steps

pub unwrap-requires : goal.unwrap-requires
unwrap-requires c = passed_some c.args.self.now.items c.loop.counter c.loop.items c.next-2.new.self c.next-2.result (omega arith) c.loop.invariant c.next-2.ensures.steps
