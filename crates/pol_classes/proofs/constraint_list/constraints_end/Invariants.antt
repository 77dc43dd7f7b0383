use Rattle.std.proofs.Common.{◌≡◌}
use Rattle.pol_classes.specs.ConstraintLists.{constraints_end}
use Rattle.pol_classes.proofs.constraint_list.constraints_end.Given as goal

abbrev pub invariant-loop : goal.invariant-loop
invariant-loop l = l.end ≡ constraints_end l.version l.bytes l.place l.counter
