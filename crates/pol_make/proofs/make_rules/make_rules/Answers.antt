use Rattle.pol_make.specs.MadeRules.{rules_of}
use Rattle.pol_make.proofs.RangeLists.{pushed-list}
use Rattle.pol_make.proofs.make_rules.make_rules.Goals as goal

pub loop-i-preserved : goal.loop-i-preserved
loop-i-preserved c = rw c.in_ok-push_rules.ensures (pushed-list (rules_of c.args.n) c.loop-i.rules.items c.loop-i.i c.loop-i.invariant)
