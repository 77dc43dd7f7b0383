use Rattle.std.proofs.Common.{◌≡◌, ◌+◌, ◌<◌, ◌^◌, drop}
use Rattle.std.specs.Prelude.{slice_index}
use Rattle.walk_enum.specs.Inner.Counting.{capped, total}
use Rattle.walk_enum.proofs.counting.ways_on.Given as goal

abbrev pub invariant-loop-node : goal.invariant-loop-node
invariant-loop-node l = record {
  few : l.ways < 2 ^ 64;
  sum : capped (l.ways + total (slice_index l.counts) (drop l.node-index l.row)) ≡ capped (total (slice_index l.counts) l.row);
}
