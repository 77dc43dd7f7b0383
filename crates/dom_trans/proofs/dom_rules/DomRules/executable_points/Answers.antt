use Rattle.std.proofs.Common.{◌≡◌, ℕ, List, IfOk, ap, subst, ◌∙◌}
use Rattle.std.specs.List.{filter}
use Rattle.pol_bitmap.specs.declared.Node.{Node}
use Rattle.pol_bitmap.specs.Nodes.{bits_of}
use Rattle.rules_between.specs.ChosenRules.{ChosenRules}
use Rattle.pol_expand.specs.JoinedTypes.{any_joins, targets_from}
use Rattle.dom_trans.proofs.FoundEntries.{executed_points, points_executed}
use Rattle.dom_trans.proofs.dom_rules.DomRules.executable_points.Goals as goal

pub returns-in_ok-points : goal.returns-in_ok-points
returns-in_ok-points c =
    let rules = c.args.self.now in
    let points = bits_of c.in_ok-points.points in
    let is = c.in_ok-points.ensures ∙ ap (λ (ends : ChosenRules). targets_from ends.policy ends.rules c.args.b) c.list-entrypoint.ensures in
    subst (λ (xs : List ℕ). IfOk c.targets_among.result (λ (set : List Node). bits_of set ≡ xs))
    (ap (λ (ends : ChosenRules). filter (any_joins ends.policy ends.rules c.args.a) points) c.list-execute.ensures ∙ points_executed rules c.args.a c.args.b points is) c.targets_among.ensures

pub returns-in_ok-executable : goal.returns-in_ok-executable
returns-in_ok-executable c =
    let rules = c.args.self.now in
    let executable = bits_of c.in_ok-executable.executable in
    let is = c.in_ok-executable.ensures ∙ ap (λ (ends : ChosenRules). targets_from ends.policy ends.rules c.args.a) c.list-execute.ensures in
    subst (λ (xs : List ℕ). IfOk c.targets_among-else-branch.result (λ (set : List Node). bits_of set ≡ xs))
    (ap (λ (ends : ChosenRules). filter (any_joins ends.policy ends.rules c.args.b) executable) c.list-entrypoint.ensures ∙ executed_points rules c.args.a c.args.b executable is) c.targets_among-else-branch.ensures
