use Rattle.std.proofs.Common.{Some, sym, ◌∙◌}
use Rattle.pol_read.specs.StoredRules.{av_rule}
use Rattle.pol_read.proofs.RulesDeclared.{rule_is_declared}
use Rattle.rule_query.proofs.MetRules.{met_failing}
use Rattle.rule_query.proofs.query.Query.add_conditional.Goals as goal

pub returns-then-not-may_be-clause-found : goal.returns-then-not-may_be-clause-found
returns-then-not-may_be-clause-found c =
    let policy = c.args.policy.now in
    let rule = av_rule (Some c.args.condition) c.args.view.now in
    met_failing policy c.args.self.now rule c.args.number c.requires.rule c.args.found.now
    (rule_is_declared c.is_accepted.ensures.accepted.0 policy c.args.number rule c.is_accepted.ensures.accepted.1 c.requires.rule)
    (c.requires.asked.at policy.symbols (Some c.args.condition) c.args.view.now (sym c.may_be.ensures ∙ c.if-not-may_be.true)) c.requires.found
