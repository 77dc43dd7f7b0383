use Rattle.std.proofs.Common.{◌≡◌, ℕ, List, IfOk, sym, subst, ap, ◌∙◌}
use Rattle.std.specs.List.Sorted.{IsPermutation}
use Rattle.rule_order.specs.ListedOrder.{AreRules, in_rule_order}
use Rattle.se_checker.specs.Verdicts.{Asked, asked_by, rules_asked}
use Rattle.se_checker.proofs.FoundRules.{found_are_rules}
use Rattle.se_checker.proofs.assertions.rules_against.Goals as goal

pub sort_by_rule_order-requires : goal.sort_by_rule_order-requires
sort_by_rule_order-requires c =
    subst (AreRules c.args.policy.now) (sym c.deref.ensures.value) (found_are_rules c.args.policy.now c.asked_by.result c.in_ok-found.found.items c.in_ok-found.ensures)

pub returns-clause-found : goal.returns-clause-found
returns-clause-found c =
    let policy = c.args.policy.now in
    let found = c.in_ok-found.found.items in
    let moved : IsPermutation found (rules_asked policy (asked_by c.args.check.now)) = subst (λ (asked : Asked). IsPermutation found (rules_asked policy asked)) c.asked_by.ensures c.in_ok-found.ensures in
    let order = c.rules_have_one_order.ensures found (rules_asked policy (asked_by c.args.check.now)) (found_are_rules policy (asked_by c.args.check.now) found moved) moved in
    subst (λ (numbers : List ℕ). IfOk c.sort_by_rule_order.result (λ sorted. sorted.items ≡ numbers)) (ap (in_rule_order policy) c.deref.ensures.value ∙ order) c.sort_by_rule_order.ensures.sorted
