use Rattle.std.proofs.Common.{◌∙◌, sym, arith}
use Rattle.pol_avtab.specs.XPerms.{holds}
use Rattle.rule_tests.proofs.SpanTests.{all_in_range, one_fails}
use Rattle.rule_tests.proofs.spans.Span.is_held.Goals as goal

pub returns-then-not-has : goal.returns-then-not-has
returns-then-not-has c = sym (one_fails (holds c.args.numbers.now) c.args.self.now.low c.args.self.now.high c.loop-number.number c.loop-number.auto.number c.loop-number-test.true (sym c.has.ensures ∙ c.if-not-has.true))

pub returns : goal.returns
returns c = sym (all_in_range (holds c.args.numbers.now) c.args.self.now.low c.args.self.now.high (λ k le lt. c.loop-number.invariant k le (omega (arith, lt, c.loop-number-test.false))))
