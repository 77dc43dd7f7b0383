use Rattle.std.proofs.Common.{ap, ◌∙◌}
use Rattle.rules_between.specs.ChosenRules.{ChosenRules, rules_between}
use Rattle.dom_trans.proofs.Listed.{entry_is}
use Rattle.dom_trans.proofs.dom_rules.DomRules.entry_reason.Goals as goal

pub returns : goal.returns
returns c =
    entry_is c.args.self.now c.args.a c.args.b c.args.entry _ _ _
    (c.from_vec.ensures ∙ c.in_ok-between.ensures.found ∙ ap (λ (ends : ChosenRules). rules_between ends.policy ends.rules c.args.b c.args.entry) c.list.ensures)
    (c.from_vec-2.ensures ∙ c.in_ok-between-2.ensures.found ∙ ap (λ (ends : ChosenRules). rules_between ends.policy ends.rules c.args.a c.args.entry) c.list-2.ensures)
    c.in_ok-defaults_between.ensures
