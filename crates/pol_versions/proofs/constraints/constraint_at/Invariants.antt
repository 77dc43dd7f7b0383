use Rattle.std.proofs.Common.{◌≡◌, ◌++◌, map}
use Rattle.std.specs.Vec.Iter.{into_iter_items}
use Rattle.pol_versions.specs.Conversion.{item_at}
use Rattle.pol_versions.proofs.constraints.constraint_at.Given as goal

abbrev pub invariant-loop-item : goal.invariant-loop-item
invariant-loop-item l = l.items.items ++ map (item_at l.version) (into_iter_items l.item-iterator) ≡ map (item_at l.version) l.fn.constraint.items
