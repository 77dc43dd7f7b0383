use Rattle.std.proofs.Common.{◌+◌, arith}
use Rattle.pol_make.specs.MadeSymbols.{made_type}
use Rattle.pol_make.proofs.RangeLists.{pushed}
use Rattle.pol_make.proofs.make_types.push_types.Goals as goal

pub loop-i-preserved : goal.loop-i-preserved
loop-i-preserved c =
    rw (c.in_ok-push.ensures.items, c.in_ok-make_type.ensures) (pushed made_type c.args.types.now.items c.loop-i.types.items 1 c.loop-i.i (c.loop-i.i + 1) (omega arith) c.loop-i.invariant)
