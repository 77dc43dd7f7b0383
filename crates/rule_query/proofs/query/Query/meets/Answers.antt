use Rattle.rule_query.specs.Inner.NumberedRules.{rule_at}
use Rattle.rule_query.proofs.NumberedRules.{is_declared, is_there, rule_is_at}
use Rattle.rule_query.proofs.Passing.{meets_at}
use Rattle.rule_query.proofs.query.Query.meets.Goals as goal

pub passes-requires : goal.passes-requires
passes-requires c = rule_is_at c.args.policy.now c.args.n c.rule_ends.result c.rule_ends.ensures.is

pub returns : goal.returns
returns c =
    let policy = c.args.policy.now in
    λ criteria is. meets_at policy criteria c.args.self.now (rule_at policy c.args.n) c.args.n c.passes.result is
    (is_declared c.is_accepted.ensures.accepted.0 policy c.args.n c.is_accepted.ensures.accepted.1 c.requires) (is_there policy c.args.n c.requires) c.passes.ensures
