use Rattle.std.proofs.Common.{◌≡◌, ℕ, ◌<◌, false, length, get_or}
use Rattle.rule_tests.specs.Inner.AskedVectors.{is_low_asked}
use Rattle.rule_tests.proofs.asked_vectors.KindMarks.of.Given as goal

abbrev pub invariant-loop-low : goal.invariant-loop-low
invariant-loop-low l = (length l.marks ≡ 128) × ((k : ℕ) → k < l.low → get_or l.marks k false ≡ is_low_asked l.kinds k)
