use Rattle.rule_order.proofs.GatheredKeys.{gathered_more}
use Rattle.rule_order.proofs.rule_keys.RuleKeys.add_ends.Goals as goal

pub returns : goal.returns
returns c =
    rw (← c.self.view_is)
    (gathered_more c.args.policy.now c.self.inside.keys c.push.new.self c.args.number c.args.ends c.of-key.result c.requires
    (rw c.symbols.ensures at c.of-key.ensures)
    c.in_ok-push.ensures.ok)
