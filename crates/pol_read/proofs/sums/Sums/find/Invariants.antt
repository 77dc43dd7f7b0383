use Rattle.std.proofs.Common.{◌<◌, ◌≤◌, ◌-◌, length, sum, take}
use Rattle.pol_read.proofs.sums.Sums.find.Given as goal

-- the item stands between where the two lists begin
abbrev pub invariant-loop-low : goal.invariant-loop-low
invariant-loop-low l = record {
  apart : l.low < l.high;
  within : l.high ≤ length l.self;
  above : sum (take l.low l.self) ≤ l.n;
  below : l.n < sum (take l.high l.self);
}

abbrev pub decreases-loop-low : goal.decreases-loop-low
decreases-loop-low l = l.high - l.low
