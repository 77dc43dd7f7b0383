use Rattle.std.proofs.Common.{arith}
use Rattle.pol_make.specs.MadeRules.{type_row}
use Rattle.pol_make.proofs.RangeLists.{pushed}
use Rattle.pol_make.proofs.make_rules.push_type_rows.Goals as goal

pub loop-i-preserved : goal.loop-i-preserved
loop-i-preserved c =
    rw (c.in_ok-push.ensures.items, c.in_ok-row.ensures, c.attribute_of.ensures.same) (pushed (type_row c.args.n) c.args.rows.now.items c.loop-i.rows.items 0 c.loop-i.i c.loop-i.i (omega arith) c.loop-i.invariant)
