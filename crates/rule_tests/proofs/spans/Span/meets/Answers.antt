use Rattle.std.proofs.Common.{sym}
use Rattle.pol_avtab.specs.XPerms.{numbers_of}
use Rattle.rule_tests.proofs.SpanTests.{some_within, none_within}
use Rattle.rule_tests.proofs.spans.Span.meets.Goals as goal

pub returns-in-Some : goal.returns-in-Some
returns-in-Some c = sym (some_within (numbers_of c.args.numbers.now) c.args.self.now.low c.args.self.now.high c.in-Some.number c.in-Some.ensures.some)

pub returns-in-None : goal.returns-in-None
returns-in-None c = sym (none_within (numbers_of c.args.numbers.now) c.args.self.now.low c.args.self.now.high c.in-None.ensures.none)
