use Rattle.std.proofs.Common.{◌≡◌, ◌++◌}
use Rattle.pol_classes.proofs.constraint_list.ConstraintList.rec.Given as goal

abbrev pub invariant-loop-constraint : goal.invariant-loop-constraint
invariant-loop-constraint l = l.constraints.items ++ l.constraint-iterator ≡ l.self
