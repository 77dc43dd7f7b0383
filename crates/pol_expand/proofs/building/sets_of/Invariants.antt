use Rattle.std.proofs.Common.{◌++◌, map}
use Rattle.std.specs.Vec.Iter.{into_iter_items}
use Rattle.pol_bitmap.specs.Nodes.{bits_of}
use Rattle.pol_expand.specs.Inner.Inverting.{AreLists}
use Rattle.pol_expand.proofs.building.sets_of.Given as goal

abbrev pub invariant-loop-list : goal.invariant-loop-list
invariant-loop-list l = AreLists l.rows l.attributes l.types (map bits_of l.sets.items ++ into_iter_items l.list-iterator)
