use Rattle.std.proofs.Common.{◌≡◌, List, ℕ, sym, ap, subst, ◌++◌, ◌∙◌}
use Rattle.std.specs.List.{filter}
use Rattle.perm_map.specs.PermissionMap.{weights_of}
use Rattle.pol_file.specs.declared.Parts.{Parts}
use Rattle.rule_order.specs.ListedOrder.{AreRules, in_rule_order}
use Rattle.flow_search.specs.Flows.{counted_numbers, gives_least}
use Rattle.flow_search.specs.FlowEdges.{FlowSearch}
use Rattle.flow_search.specs.Inner.FlowParts.{AreDistinct}
use Rattle.flow_search.proofs.Giving.{numbers_are_rules, rules_give}
use Rattle.flow_search.proofs.Results.{if_ok}
use Rattle.flow_search.proofs.flow_graph.FlowGraph.giving.Goals as goal

pub sort_by_rule_order-requires : goal.sort_by_rule_order-requires
sort_by_rule_order-requires c =
    subst (λ (policy : Parts). AreRules policy c.deref-2.result.now) (sym c.policy.ensures) (subst (AreRules c.args.self.now.rules.policy) (sym c.deref-2.ensures.value) (rw (← c.self.view_is) (
    numbers_are_rules c.self.inside.weigher.rules (gives_least (weights_of c.self.inside.weigher.entries) c.self.inside.weigher.rules.policy c.self.inside.least c.args.from c.args.to) c.in_ok-numbers.numbers.items (
    rules_give (weights_of c.self.inside.weigher.entries) c.self.inside.weigher.rules c.self.inside.least c.args.from c.args.to c.self.inside.reverse c.self.inside.out c.self.inside.into c.self.invariant.0 c.self.invariant.1
    c.in_ok-ahead.ahead.items c.in_ok-back.back.items c.in_ok-numbers.numbers.items c.in_ok-ahead.ensures c.in_ok-back.ensures
    (subst (λ (back : List ℕ). AreDistinct (c.in_ok-ahead.ahead.items ++ back) c.in_ok-numbers.numbers.items) c.deref.ensures.value c.in_ok-numbers.ensures)))))

pub returns-clause-found : goal.returns-clause-found
returns-clause-found c = rw (← c.self.view_is) (
    if_ok (λ found. found.items ≡ in_rule_order c.policy.result.now c.deref-2.result.now) (λ found. found.items ≡ in_rule_order c.self.inside.weigher.rules.policy (filter (gives_least (weights_of c.self.inside.weigher.entries) c.self.inside.weigher.rules.policy c.self.inside.least c.args.from c.args.to) (counted_numbers c.self.inside.weigher.rules))) c.sort_by_rule_order.result
    (λ found sorted. sorted
    ∙ ap (λ (policy : Parts). in_rule_order policy c.deref-2.result.now) (c.policy.ensures ∙ ap (λ (s : FlowSearch). s.rules.policy) (sym c.self.view_is))
    ∙ ap (in_rule_order c.self.inside.weigher.rules.policy) (c.deref-2.ensures.value ∙ rules_give (weights_of c.self.inside.weigher.entries) c.self.inside.weigher.rules c.self.inside.least c.args.from c.args.to c.self.inside.reverse c.self.inside.out c.self.inside.into c.self.invariant.0 c.self.invariant.1
    c.in_ok-ahead.ahead.items c.in_ok-back.back.items c.in_ok-numbers.numbers.items c.in_ok-ahead.ensures c.in_ok-back.ensures
    (subst (λ (back : List ℕ). AreDistinct (c.in_ok-ahead.ahead.items ++ back) c.in_ok-numbers.numbers.items) c.deref.ensures.value c.in_ok-numbers.ensures)))
    c.sort_by_rule_order.ensures.sorted)

pub returns-clause-rules : goal.returns-clause-rules
returns-clause-rules c =
    if_ok (λ found. AreRules c.policy.result.now found.items) (λ found. AreRules c.args.self.now.rules.policy found.items) c.sort_by_rule_order.result
    (λ found rules. subst (λ (policy : Parts). AreRules policy found.items) c.policy.ensures rules)
    c.sort_by_rule_order.ensures.rules
