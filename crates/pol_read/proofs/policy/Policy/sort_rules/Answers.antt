use Rattle.std.proofs.Common.{rules}
use Rattle.std.proofs.lemmas.Fn.{always_returns_same}
use Rattle.pol_read.specs.RuleOrder.{rule_key_of}
use Rattle.pol_read.proofs.RuleRanks.{in_rule_order}
use Rattle.pol_read.proofs.policy.Policy.sort_rules.Goals as goal

pub returns-clause-rise : goal.returns-clause-rise
returns-clause-rise c =
    in_rule_order c.args.self.now c.sort_unstable_by_key.new.self
    (c.sort_unstable_by_key.ensures.sorted (rule_key_of c.args.self.now) (always_returns_same _ _ _ (λ a r q k. search rules)))
