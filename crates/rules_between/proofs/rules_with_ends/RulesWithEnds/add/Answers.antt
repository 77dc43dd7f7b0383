use Rattle.pol_file.proofs.Acceptances.{accepted_has_type_values}
use Rattle.pol_read.specs.StoredRules.{stored}
use Rattle.rules_between.proofs.Ends.{gathered_more}
use Rattle.rules_between.proofs.rules_with_ends.RulesWithEnds.add.Goals as goal

pub returns-clause-ends : goal.returns-clause-ends
returns-clause-ends c =
    gathered_more c.args.policy.now c.args.self.now.rules.items c.args.self.now.sources.items c.args.self.now.targets.items c.push.new.self.items c.push-2.new.self.items c.push-3.new.self.items c.args.number (stored c.args.rule.now)
    (accepted_has_type_values c.is_accepted.ensures.accepted.0 c.args.policy.now c.is_accepted.ensures.accepted.1) c.requires.before c.requires.rule c.requires.declared c.requires.types c.in_ok-push.ensures.items c.in_ok-push-2.ensures.items c.in_ok-push-3.ensures.items
