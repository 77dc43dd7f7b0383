use Rattle.std.proofs.Common.{◌-◌, length}
use Rattle.walk_enum.proofs.WalkCounts.{AreNoted}
use Rattle.walk_enum.proofs.counting.walk_counts.Given as goal

abbrev pub invariant-loop-back : goal.invariant-loop-back
invariant-loop-back l = AreNoted l.rows l.order l.to l.counts.items (length l.order - l.back)
