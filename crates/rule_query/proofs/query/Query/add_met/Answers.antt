use Rattle.std.proofs.Common.{sym, ◌∙◌}
use Rattle.rule_query.specs.Inner.NumberedRules.{rule_at}
use Rattle.rule_query.proofs.MetRules.{met_failing, met_passing}
use Rattle.rule_query.proofs.NumberedRules.{has_ends, is_declared, is_there, rule_is_at}
use Rattle.rule_query.proofs.query.Query.add_met.Goals as goal

pub passes-requires : goal.passes-requires
passes-requires c = rule_is_at c.args.policy.now c.args.number c.args.ends c.requires.rule

pub returns-in_ok-add_ends-clause-found : goal.returns-in_ok-add_ends-clause-found
returns-in_ok-add_ends-clause-found c =
    let policy = c.args.policy.now in
    let within = has_ends policy c.args.number c.args.ends c.requires.rule in
    met_passing policy c.args.self.now (rule_at policy c.args.number) c.args.number (is_there policy c.args.number within) c.args.found.now c.add_ends.new.self
    (is_declared c.is_accepted.ensures.accepted.0 policy c.args.number c.is_accepted.ensures.accepted.1 within) (sym c.passes.ensures ∙ c.if-passes.true) c.in_ok-add_ends.ensures.added c.requires.found

pub returns-else-passes-clause-found : goal.returns-else-passes-clause-found
returns-else-passes-clause-found c =
    let policy = c.args.policy.now in
    let within = has_ends policy c.args.number c.args.ends c.requires.rule in
    met_failing policy c.args.self.now (rule_at policy c.args.number) c.args.number (is_there policy c.args.number within) c.args.found.now
    (is_declared c.is_accepted.ensures.accepted.0 policy c.args.number c.is_accepted.ensures.accepted.1 within) (sym c.passes.ensures ∙ c.if-passes.false) c.requires.found
