use Rattle.std.proofs.Common.{◌≡◌, ◌≤◌, ◌<◌, ℕ, false}
use Rattle.pol_avtab.specs.XPerms.{has_xbit}
use Rattle.pol_avtab.proofs.xperms.XPerms.next_bit.Given as goal

abbrev pub invariant-loop-bit : goal.invariant-loop-bit
invariant-loop-bit l = (b : ℕ) → l.from ≤ b → b < l.bit → has_xbit l.self.bits b ≡ false
