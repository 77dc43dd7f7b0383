use Rattle.std.proofs.Common.{◌≡◌, ◌++◌}
use Rattle.pol_constraints.proofs.constraint_view.ConstraintView.rec.Given as goal

abbrev pub invariant-loop-item : goal.invariant-loop-item
invariant-loop-item l = l.items.items ++ l.item-iterator ≡ l.self.items
