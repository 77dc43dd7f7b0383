use Rattle.std.proofs.Common.{◌+◌, refl}
use Rattle.pol_make.specs.MadeRules.{attribute_row}
use Rattle.pol_make.proofs.RangeLists.{pushed}
use Rattle.pol_make.proofs.make_rules.push_attribute_rows.Goals as goal

pub loop-i-preserved : goal.loop-i-preserved
loop-i-preserved c =
    rw (c.in_ok-push.ensures.items, c.in_ok-row.ensures) (pushed attribute_row c.args.rows.now.items c.loop-i.rows.items c.args.n c.loop-i.i (c.args.n + c.loop-i.i) refl c.loop-i.invariant)
