use Rattle.std.proofs.Common.{◌≡◌, take}
use Rattle.std.specs.List.{AllByRecursion}
use Rattle.pol_bitmap.specs.Bitmap.{NodeFits}
use Rattle.pol_bitmap.proofs.set.Set.from_view.Given as goal

abbrev pub invariant-loop-i : goal.invariant-loop-i
invariant-loop-i l = (l.nodes.items ≡ take l.i l.view) × AllByRecursion NodeFits l.nodes.items
