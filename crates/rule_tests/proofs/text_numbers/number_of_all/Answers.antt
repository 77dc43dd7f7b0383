use Rattle.std.proofs.Common.{◌+◌, ◌*◌, ◌∙◌, drop, sym}
use Rattle.rule_tests.proofs.DigitNumbers.{next_at, passed}
use Rattle.rule_tests.proofs.text_numbers.number_of_all.Goals as goal

pub returns-then-value-gt65535 : goal.returns-then-value-gt65535
returns-then-value-gt65535 c =
    sym (passed (c.loop-byte.value * 16 + c.in-Some.digit) (drop (c.loop-byte.byte-index + 1) c.args.digits.now) c.if-value-gt65535.true)
    ∙ sym (next_at c.loop-byte.value c.loop-byte.byte-index c.in-Some.digit c.args.digits.now c.loop-byte-test.true (sym c.in-Some.ensures.exact))
    ∙ c.loop-byte.invariant.is_rest
