use Rattle.std.proofs.Common.{◌≡◌, Bool, IfOk, ap, subst, sym, ◌∙◌}
use Rattle.pol_file.specs.declared.Parts.{Parts}
use Rattle.pol_expand.specs.PlainTypes.{are_two_types}
use Rattle.rules_between.specs.ChosenRules.{ChosenRules}
use Rattle.pol_expand.specs.JoinedTypes.{any_joins}
use Rattle.dom_trans.proofs.Ways.{dynamic_of_others, dynamic_refused, dynamic_by_grant}
use Rattle.dom_trans.proofs.dom_rules.DomRules.is_dynamic.Goals as goal

pub returns-then-not-are_two_types : goal.returns-then-not-are_two_types
returns-then-not-are_two_types c =
    dynamic_of_others c.args.self.now c.args.a c.args.b (ap (λ (p : Parts). are_two_types p c.args.a c.args.b) (sym c.policy.ensures) ∙ sym c.are_two_types.ensures ∙ c.if-not-are_two_types.true)

pub returns-then-branch : goal.returns-then-branch
returns-then-branch c =
    let rules = c.args.self.now in
    subst (λ (v : Bool). IfOk c.has_between.result (λ holds. holds ≡ v)) (dynamic_by_grant rules c.args.a c.args.b (ap (λ (p : Parts). are_two_types p c.args.a c.args.b) (sym c.policy.ensures) ∙ sym c.are_two_types.ensures ∙ c.if-not-are_two_types.false) (sym c.in_ok-may_change.ensures ∙ c.if-branch.true))
    (subst (λ (ends : ChosenRules). IfOk c.has_between.result (λ found. found ≡ any_joins ends.policy ends.rules c.args.a c.args.b)) c.list.ensures c.has_between.ensures)

pub returns : goal.returns
returns c =
    dynamic_refused c.args.self.now c.args.a c.args.b (sym c.in_ok-may_change.ensures ∙ c.if-branch.false)
