use Rattle.std.proofs.Common.{◌≡◌, ◌++◌, map}
use Rattle.std.specs.Vec.Iter.{into_iter_items}
use Rattle.pol_versions.specs.Conversion.{class_at}
use Rattle.pol_versions.proofs.constraints.classes_at.Given as goal

abbrev pub invariant-loop-class : goal.invariant-loop-class
invariant-loop-class l = l.changed.items ++ map (class_at l.version) (into_iter_items l.class-iterator) ≡ map (class_at l.version) l.fn.classes
