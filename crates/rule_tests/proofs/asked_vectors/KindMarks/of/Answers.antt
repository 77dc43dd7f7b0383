use Rattle.std.proofs.Common.{◌<◌, ◌≢◌, ◌∙◌, false, length, arith, get_or-set_other, get_or-set_same, length-set, below_more}
use Rattle.std.proofs.lemmas.List.FromFn.{fill_by_all}
use Rattle.rule_tests.specs.Inner.AskedVectors.{is_low_asked}
use Rattle.rule_tests.proofs.asked_vectors.KindMarks.of.Goals as goal

pub loop-low-preserved : goal.loop-low-preserved
loop-low-preserved c =
    let lt : c.loop-low.low < length c.loop-low.marks = omega (arith, c.loop-low.invariant.0, c.loop-low-test.true) in (
      length-set c.loop-low.marks c.loop-low.low c.is_low_asked.result ∙ c.loop-low.invariant.0,
      below_more _ _ (λ k h. let ne : k ≢ c.loop-low.low = omega (arith, h) in rw get_or-set_other (c.loop-low.invariant.1 k h)) (rw get_or-set_same c.is_low_asked.ensures),
    )

pub returns : goal.returns
returns c = fill_by_all (is_low_asked c.args.kinds.now) c.loop-low.marks 128 false c.loop-low.invariant.0 (λ k lt. c.loop-low.invariant.1 k (omega (arith, lt, c.loop-low-test.false)))
