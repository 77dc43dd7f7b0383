use Rattle.std.proofs.Common.{◌≡◌, ◌-◌, length}
use Rattle.pol_bitmap.specs.Nodes.{bits_of}
use Rattle.walk_enum.specs.Inner.Cutting.{AreLeading, IsCut}
use Rattle.walk_enum.proofs.cutting.cut.Given as goal

abbrev pub invariant-loop-back : goal.invariant-loop-back
invariant-loop-back l = record {
  long : length l.kept.items ≡ length l.found.depths.items;
  cut : IsCut l.found.depths.items l.found.queue.items l.found.rows.items l.to l.kept.items (length l.found.rows.items - l.back);
  leading : AreLeading l.found.depths.items l.kept.items l.to (bits_of l.leading.set) l.leading.others.items l.leading.deepest;
}
