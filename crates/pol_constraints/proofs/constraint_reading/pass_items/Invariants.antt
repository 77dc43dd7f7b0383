use Rattle.std.proofs.Common.{◌≤◌}
use Rattle.pol_constraints.proofs.ConstraintPlaces.{Passed}
use Rattle.pol_constraints.proofs.constraint_reading.pass_items.Given as goal

abbrev pub invariant-loop-i : goal.invariant-loop-i
invariant-loop-i l = record { passed : Passed l.version l.xtarget l.count l.fn.c l.i l.values l.c; few : l.values ≤ 5 }
