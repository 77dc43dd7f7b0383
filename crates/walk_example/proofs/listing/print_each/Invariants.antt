use Rattle.std.proofs.Common.{◌≡◌, Some, slice_get}
use Rattle.walk_example.proofs.listing.print_each.Given as goal

abbrev pub invariant-loop : goal.invariant-loop
invariant-loop g l = slice_get l.layers l.counter ≡ Some l.walk
