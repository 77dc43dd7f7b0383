use Rattle.std.proofs.Common.{◌≡◌, ◌++◌, map}
use Rattle.std.specs.Vec.Iter.{into_iter_items}
use Rattle.pol_versions.specs.Conversion.{constraint_at}
use Rattle.pol_versions.proofs.constraints.constraints_at.Given as goal

abbrev pub invariant-loop-constraint : goal.invariant-loop-constraint
invariant-loop-constraint l = l.changed.items ++ map (constraint_at l.version) (into_iter_items l.constraint-iterator) ≡ map (constraint_at l.version) l.fn.constraints
