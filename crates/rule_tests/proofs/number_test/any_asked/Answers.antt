use Rattle.std.proofs.Common.{◌∙◌, ℕ}
use Rattle.pol_avtab.specs.XPerms.{numbers_of}
use Rattle.rule_tests.specs.AskedNumbers.{is_within}
use Rattle.rule_tests.specs.declared.spans.Span.{Span}
use Rattle.rule_tests.proofs.SpanTests.{swapped}
use Rattle.rule_tests.proofs.number_test.any_asked.Goals as goal

pub returns : goal.returns
returns c = c.any_meets.ensures ∙ swapped (λ (span : Span) (number : ℕ). is_within number span) c.args.spans.now (numbers_of c.args.numbers.now)
