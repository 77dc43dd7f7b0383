use Rattle.std.proofs.Common.{◌≡◌, IfOk, subst}
use Rattle.pol_bitmap.specs.Nodes.{bits_of}
use Rattle.rules_between.specs.ChosenRules.{ChosenRules}
use Rattle.pol_expand.specs.JoinedTypes.{targets_from}
use Rattle.dom_trans.proofs.dom_rules.DomRules.points.Goals as goal

pub returns : goal.returns
returns c =
    subst (λ (ends : ChosenRules). IfOk c.targets_of.result (λ points. bits_of points ≡ targets_from ends.policy ends.rules c.args.b)) c.list.ensures c.targets_of.ensures
