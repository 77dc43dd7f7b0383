use Rattle.std.proofs.Common.{◌∙◌, length-set, arith}
use Rattle.rule_listing.specs.ReadRules.{is_plain}
use Rattle.rule_listing.proofs.ReadAhead.{looked_more}
use Rattle.rule_listing.proofs.rules_ahead.which_are_plain.Goals as goal

pub loop-place-preserved : goal.loop-place-preserved
loop-place-preserved c =
    let was = c.loop-place.invariant in (
      length-set c.loop-place.plain c.loop-place.place c.is_plain.result ∙ was.0,
      looked_more (is_plain c.args.policy.now.rules.table) c.args.numbers.now c.loop-place.place c.loop-place.plain c.is_plain.result
          (omega (arith, c.loop-place-test.true))
          (omega (arith, c.loop-place-test.true, was.0, c.requires))
          c.is_plain.ensures was.1,
    )
