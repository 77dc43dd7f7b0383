use Rattle.std.proofs.Common.{◌≡◌, ℕ, ◌<◌, get_or, length}
use Rattle.pol_avtab.specs.Inner.DuplicateKeys.{hashed}
use Rattle.pol_avtab.proofs.key_order.ClassHashes.new.Given as goal

abbrev pub invariant-loop-class : goal.invariant-loop-class
invariant-loop-class l = (length l.hashes ≡ 256) × ((class : ℕ) → class < l.class → get_or l.hashes class 0 ≡ hashed 0 class)
