use Rattle.std.specs.Prelude.{reverse}
use Rattle.pol_constraints.proofs.ConstraintTexts.{Written}
use Rattle.pol_constraints.proofs.constraint_view.ConstraintView.infix.Given as goal

abbrev pub invariant-loop-item : goal.invariant-loop-item
invariant-loop-item g l = Written (g.N.Names.named l.names) l.self.items l.item-iterator (reverse l.operands.items)
