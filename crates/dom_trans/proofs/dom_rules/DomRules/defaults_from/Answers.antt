use Rattle.std.proofs.Common.{◌≡◌, ◌≤◌, ap, sym, subst, ◌∙◌}
use Rattle.std.specs.List.{filter}
use Rattle.std.proofs.lemmas.Result.{IfOk-weaker}
use Rattle.counted_rules.specs.CountedRules.{Counted}
use Rattle.rule_order.specs.ListedOrder.{AreRules}
use Rattle.rules_between.specs.ChosenRules.{AreRulesFrom, ChosenRules, begins_at}
use Rattle.pol_expand.proofs.TypesOutside.{type_within}
use Rattle.dom_trans.specs.DefaultRules.{has_default}
use Rattle.dom_trans.specs.Inner.EntryPoints.{AreDefaultsFrom}
use Rattle.dom_trans.specs.Inner.RuleLists.{rules_to}
use Rattle.dom_trans.proofs.Defaults.{defaults_by_source, defaults_by_target, from_are_rules, to_are_rules}
use Rattle.dom_trans.proofs.dom_rules.DomRules.defaults_from.Goals as goal

pub count_to-requires-clause-least : goal.count_to-requires-clause-least
count_to-requires-clause-least c = (type_within c.args.self.now.policy c.args.b c.requires).0

pub count_to-requires-clause-most : goal.count_to-requires-clause-most
count_to-requires-clause-most c =
    subst (λ (r : ChosenRules). c.args.b ≤ r.policy.symbols.types.nprim) (sym c.self.invariant.2) (subst (λ (r : Counted). c.args.b ≤ r.policy.symbols.types.nprim) (sym c.self.view_is) (type_within c.args.self.now.policy c.args.b c.requires).1)

pub with_default-requires : goal.with_default-requires
with_default-requires c =
    let rules = c.args.self.now in
    let from = subst (λ (r : ChosenRules). AreRulesFrom r.policy r.rules c.args.a c.in_ok-numbers.numbers.items) c.list-rules.ensures c.in_ok-numbers.ensures in
    subst (AreRules rules.policy) (sym c.deref.ensures.value) (from_are_rules rules c.args.a c.in_ok-numbers.numbers.items from)

pub returns-in_ok-numbers : goal.returns-in_ok-numbers
returns-in_ok-numbers c =
    let rules = c.args.self.now in
    let numbers = c.in_ok-numbers.numbers.items in
    let from = subst (λ (r : ChosenRules). AreRulesFrom r.policy r.rules c.args.a numbers) c.list-rules.ensures c.in_ok-numbers.ensures in
    IfOk-weaker c.with_default.result (λ found. found.items ≡ filter (has_default rules.policy c.args.b) c.deref.result.now) (λ found. AreDefaultsFrom rules c.args.a c.args.b found.items)
    (λ found is. defaults_by_source rules c.args.a c.args.b numbers found.items from (is ∙ ap (filter (has_default rules.policy c.args.b)) c.deref.ensures.value))
    c.with_default.ensures

pub rules_to-requires-clause-least : goal.rules_to-requires-clause-least
rules_to-requires-clause-least c = (type_within c.args.self.now.policy c.args.b c.requires).0

pub rules_to-requires-clause-most : goal.rules_to-requires-clause-most
rules_to-requires-clause-most c =
    subst (λ (r : ChosenRules). c.args.b ≤ r.policy.symbols.types.nprim) (sym c.self.invariant.2) (subst (λ (r : Counted). c.args.b ≤ r.policy.symbols.types.nprim) (sym c.self.view_is) (type_within c.args.self.now.policy c.args.b c.requires).1)

pub beginning_at-requires : goal.beginning_at-requires
beginning_at-requires c =
    let rules = c.args.self.now in
    let numbers = c.in_ok-numbers-2.numbers.items in
    let to = c.in_ok-numbers-2.ensures ∙ ap (λ (r : ChosenRules). filter (has_default r.policy c.args.b) r.rules) c.self.invariant.2 ∙ ap (λ (r : Counted). rules_to r c.args.b) c.self.view_is in
    subst (AreRules rules.policy) (sym c.deref-else-branch-count_to.ensures.value) (to_are_rules rules c.args.b numbers to)

pub returns-in_ok-numbers-2 : goal.returns-in_ok-numbers-2
returns-in_ok-numbers-2 c =
    let rules = c.args.self.now in
    let numbers = c.in_ok-numbers-2.numbers.items in
    let to = c.in_ok-numbers-2.ensures ∙ ap (λ (r : ChosenRules). filter (has_default r.policy c.args.b) r.rules) c.self.invariant.2 ∙ ap (λ (r : Counted). rules_to r c.args.b) c.self.view_is in
    IfOk-weaker c.beginning_at.result (λ found. found.items ≡ filter (begins_at rules.policy c.args.a) c.deref-else-branch-count_to.result.now) (λ found. AreDefaultsFrom rules c.args.a c.args.b found.items)
    (λ found is. defaults_by_target rules c.args.a c.args.b numbers found.items to (is ∙ ap (filter (begins_at rules.policy c.args.a)) c.deref-else-branch-count_to.ensures.value))
    c.beginning_at.ensures
