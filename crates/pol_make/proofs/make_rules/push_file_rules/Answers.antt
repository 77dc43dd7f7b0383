use Rattle.std.proofs.Common.{◌≡◌, ◌+◌, ◌-◌, arith}
use Rattle.pol_make.specs.MadeRules.{file_rule}
use Rattle.pol_make.proofs.RangeLists.{pushed}
use Rattle.pol_make.proofs.make_rules.push_file_rules.Goals as goal

pub loop-places-preserved : goal.loop-places-preserved
loop-places-preserved c =
    let places = c.loop-places.places in
    let more : places + 1 - 4 ≡ places - 4 + 1 = omega arith in
    rw (c.in_ok-push.ensures.items, more, c.file_rule.ensures) (pushed (file_rule c.args.n c.args.i) c.args.rules.now.items c.loop-places.rules.items 4 (places - 4) places (omega arith) c.loop-places.invariant)

pub returns : goal.returns
returns c =
    let all : c.loop-places.places - 4 ≡ 15 = omega arith in
    rw all at c.loop-places.invariant
