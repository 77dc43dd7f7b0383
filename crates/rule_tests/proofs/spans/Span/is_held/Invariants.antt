use Rattle.std.proofs.Common.{◌≡◌, ◌≤◌, ◌<◌, ℕ, true}
use Rattle.pol_avtab.specs.XPerms.{holds}
use Rattle.rule_tests.proofs.spans.Span.is_held.Given as goal

abbrev pub invariant-loop-number : goal.invariant-loop-number
invariant-loop-number l = (k : ℕ) → l.self.low ≤ k → k < l.number → holds l.numbers k ≡ true
