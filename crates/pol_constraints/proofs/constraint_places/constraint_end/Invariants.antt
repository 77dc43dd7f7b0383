use Rattle.std.proofs.Common.{◌≡◌, ◌+◌}
use Rattle.pol_constraints.specs.ConstraintRecord.{items_end}
use Rattle.pol_constraints.proofs.constraint_places.constraint_end.Given as goal

abbrev pub invariant-loop : goal.invariant-loop
invariant-loop l = l.end ≡ items_end l.version l.bytes (l.place + 8) l.counter
