use Rattle.std.proofs.Common.{◌≡◌, ℕ, List, IfOk, ap, subst, ◌∙◌}
use Rattle.std.specs.List.{filter}
use Rattle.pol_bitmap.specs.declared.Node.{Node}
use Rattle.pol_bitmap.specs.Nodes.{bits_of}
use Rattle.rules_between.specs.ChosenRules.{ChosenRules}
use Rattle.pol_expand.specs.JoinedTypes.{any_joins}
use Rattle.dom_trans.proofs.FoundEntries.{points_started}
use Rattle.dom_trans.proofs.dom_rules.DomRules.default_points.Goals as goal

pub returns : goal.returns
returns c =
    let rules = c.args.self.now in
    let starts = bits_of c.in_ok-starts.starts in
    let executable = bits_of c.in_ok-executable.executable in
    let is = c.in_ok-executable.ensures ∙ ap (λ (ends : ChosenRules). filter (any_joins ends.policy ends.rules c.args.a) starts) c.list.ensures in
    subst (λ (xs : List ℕ). IfOk c.targets_among-2.result (λ (set : List Node). bits_of set ≡ xs))
    (ap (λ (ends : ChosenRules). filter (any_joins ends.policy ends.rules c.args.b) executable) c.list-2.ensures ∙ points_started rules c.args.a c.args.b starts executable c.in_ok-starts.ensures is) c.targets_among-2.ensures
