use Rattle.rules_between.proofs.TargetsAmong.{common_are}
use Rattle.rules_between.proofs.chosen_rules.ChosenRules.found_among.Goals as goal

pub returns : goal.returns
returns c =
    let now = c.args.self.now in
    let ends = c.have_ends.ensures in
    common_are now.policy now.rules ends.0 ends.1 c.args.source c.in_ok-targets.targets c.args.among.now c.common.result ends.2 c.nodes.ensures.form c.in_ok-targets.ensures c.common.ensures.form c.common.ensures.bits
