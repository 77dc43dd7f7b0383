use Rattle.std.proofs.Common.{◌+◌, ◌∙◌, arith}
use Rattle.walk_enum.specs.Inner.Turns.{row_of}
use Rattle.walk_simple.proofs.Settling.{bounds_more}
use Rattle.walk_simple.proofs.distances.distances.Goals as goal

pub loop-steps-preserved : goal.loop-steps-preserved
loop-steps-preserved c =
    (c.settle.ensures.long ∙ c.loop-steps.invariant.0, bounds_more (row_of c.args.rows.now) c.args.to (c.args.most + 1) c.loop-steps.far.items c.settle.new.far.items c.loop-steps.steps c.loop-steps.invariant.1 c.settle.ensures (omega (arith, c.loop-steps-test.true)))
