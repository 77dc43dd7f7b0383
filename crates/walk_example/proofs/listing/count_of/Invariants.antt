use Rattle.std.proofs.Common.{◌≡◌, Some, slice_get}
use Rattle.walk_example.proofs.listing.count_of.Given as goal

abbrev pub invariant-loop-index : goal.invariant-loop-index
invariant-loop-index l = slice_get l.layers l.index ≡ Some l.walk
