use Rattle.std.proofs.Common.{take}
use Rattle.set_products.specs.Inner.SetCounts.{AreCounts}
use Rattle.set_products.proofs.counted_sets.CountedSets.new.Given as goal

-- The sets up to this one are counted.
abbrev pub invariant-loop-n : goal.invariant-loop-n
invariant-loop-n l = AreCounts (take l.n l.fn.pool) l.counts.items
