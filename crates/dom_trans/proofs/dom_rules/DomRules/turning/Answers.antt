use Rattle.std.proofs.Common.{◌≡◌, ℕ, List, IfOk, ap, sym, subst, ◌∙◌}
use Rattle.std.specs.List.{filter}
use Rattle.std.specs.List.Sorted.{IsStrictlyIncreasing}
use Rattle.pol_bitmap.specs.declared.Node.{Node}
use Rattle.pol_bitmap.specs.Nodes.{bits_of}
use Rattle.rules_between.specs.ChosenRules.{ChosenRules}
use Rattle.pol_expand.specs.JoinedTypes.{sources_to}
use Rattle.rule_grants.specs.Grants.{granting_rules, grants}
use Rattle.rule_grants.specs.Names.{process, dyntransition, setcurrent}
use Rattle.dom_trans.proofs.Steps.{sources_rise}
use Rattle.dom_trans.proofs.dom_rules.DomRules.turning.Goals as goal

pub having-requires : goal.having-requires
having-requires c =
    let rules = c.args.self.now in
    let allowed = c.in_ok-allowed.ensures ∙ ap (λ (ends : ChosenRules). sources_to ends.policy ends.rules c.args.b) c.list.ensures in
    subst IsStrictlyIncreasing (sym allowed) (sources_rise rules.policy (granting_rules rules process dyntransition) c.args.b)

pub returns : goal.returns
returns c =
    let rules = c.args.self.now in
    let changes = λ (a : ℕ). grants rules a a process setcurrent in
    let allowed = c.in_ok-allowed.ensures ∙ ap (λ (ends : ChosenRules). sources_to ends.policy ends.rules c.args.b) c.list.ensures in
    subst (λ (xs : List ℕ). IfOk c.having.result (λ (set : List Node). bits_of set ≡ xs)) (ap (filter changes) allowed) c.having.ensures
