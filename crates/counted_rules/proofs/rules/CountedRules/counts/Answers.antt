use Rattle.std.proofs.Common.{◌≡◌, true, subst}
use Rattle.pol_read.specs.StoredRules.{stored}
use Rattle.counted_rules.specs.CountedRules.{Counted, counts}
use Rattle.counted_rules.proofs.EnabledRules.{all_count, enabled_count}
use Rattle.counted_rules.proofs.rules.CountedRules.counts.Goals as goal

pub returns-in-None : goal.returns-in-None
returns-in-None c =
    subst (λ (rules : Counted). true ≡ counts rules (stored c.args.rule.now)) c.self.view_is
    (all_count c.self.inside.policy.now.rules.conditionals c.self.inside.values c.args.rule.now.condition c.in-None.is)

pub returns-in-Some : goal.returns-in-Some
returns-in-Some c =
    subst (λ (rules : Counted). c.enable.result ≡ counts rules (stored c.args.rule.now)) c.self.view_is
    (enabled_count c.self.inside.policy.now.rules.conditionals c.self.inside.values c.in-Some.values c.args.rule.now.condition c.enable.result c.self.invariant c.in-Some.is c.enable.ensures)
