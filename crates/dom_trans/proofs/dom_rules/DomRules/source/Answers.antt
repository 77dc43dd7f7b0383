use Rattle.std.proofs.Common.{ap, ◌∙◌}
use Rattle.rules_between.specs.ChosenRules.{ChosenRules}
use Rattle.pol_expand.specs.JoinedTypes.{targets_from}
use Rattle.dom_trans.proofs.dom_rules.DomRules.source.Goals as goal

pub returns : goal.returns
returns c =
    record {
      executes = c.in_ok-targets_of.ensures ∙ ap (λ (ends : ChosenRules). targets_from ends.policy ends.rules c.args.a) c.list.ensures;
      asks = c.in_ok-may_ask.ensures;
      changes = c.in_ok-may_change.ensures;
    }
