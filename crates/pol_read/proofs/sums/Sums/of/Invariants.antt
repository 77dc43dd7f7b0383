use Rattle.std.proofs.Common.{◌≡◌, take}
use Rattle.pol_read.proofs.sums.Sums.of.Given as goal

abbrev pub invariant-loop-length : goal.invariant-loop-length
invariant-loop-length l = l.sums ≡ take l.length-index l.lengths
