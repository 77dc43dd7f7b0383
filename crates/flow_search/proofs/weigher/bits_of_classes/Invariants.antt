use Rattle.std.proofs.Common.{◌≡◌, ℕ, [], length, slice_get, slice_index_or, Some}
use Rattle.flow_search.specs.declared.reach_bits.ReachBits.{ReachBits}
use Rattle.flow_search.specs.Inner.WeightTables.{AreReachBits}
use Rattle.flow_search.proofs.weigher.bits_of_classes.Given as goal

abbrev pub invariant-loop-class : goal.invariant-loop-class
invariant-loop-class l =
    (length l.bits.items ≡ l.class-index)
    × ((i : ℕ) (found : ReachBits) → slice_get l.bits.items i ≡ Some found → AreReachBits l.least (slice_index_or l.classes i []) found)
