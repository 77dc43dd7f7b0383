use Rattle.std.proofs.Common.{◌≡◌, ◌<◌, ℕ, [], length, slice_get, slice_index_or, Some}
use Rattle.pol_cursor.specs.References.{Placed}
use Rattle.pol_classes.specs.declared.ClassRec.{ClassRec}
use Rattle.perm_map.specs.PermissionMap.{weights_of}
use Rattle.flow_search.specs.Inner.WeightTables.{class_weights}
use Rattle.flow_search.proofs.weigher.weights_of_classes.Given as goal

abbrev pub invariant-loop-i : goal.invariant-loop-i
invariant-loop-i l =
    (length l.classes.items ≡ l.i)
    × ((k : ℕ) (class : Placed ClassRec) → k < l.i → slice_get l.symbols.classes.records k ≡ Some class → slice_index_or l.classes.items k [] ≡ class_weights (weights_of l.map) l.symbols class.value)
