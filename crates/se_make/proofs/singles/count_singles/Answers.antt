use Rattle.std.proofs.Common.{arith}
use Rattle.pol_read.specs.StoredRules.{stored}
use Rattle.se_make.proofs.Counted.{all_counted, counted_more}
use Rattle.se_make.proofs.singles.count_singles.Goals as goal

pub loop-number-preserved : goal.loop-number-preserved
loop-number-preserved c = record {
  counted = counted_more c.args.policy.now c.loop-number.count c.in_ok-count.field-0 c.loop-number.number (stored c.rule-rule.result) c.rule-rule.ensures.is c.loop-number.invariant.counted c.in_ok-count.ensures.count;
  small = omega (arith, c.loop-number.invariant.small, c.in_ok-count.ensures.few);
}

pub returns : goal.returns
returns c =
    all_counted c.args.policy.now c.loop-number.count c.loop-number.number (omega (arith, c.loop-number-test.false, c.rule_count-number-end.ensures.count)) c.loop-number.invariant.counted
