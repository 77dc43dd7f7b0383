use Rattle.std.proofs.Common.{◌≡◌, ℕ, List, ap, sym, subst, ◌∙◌, IfOk}
use Rattle.std.specs.List.{filter}
use Rattle.std.specs.List.Sorted.{IsPermutation}
use Rattle.rule_order.specs.ListedOrder.{AreRules, in_rule_order}
use Rattle.rules_between.specs.ChosenRules.{ChosenRules, rules_between}
use Rattle.pol_expand.specs.JoinedTypes.{joins}
use Rattle.rules_between.proofs.Found.{between_is}
use Rattle.rules_between.proofs.chosen_rules.ChosenRules.between.Goals as goal

pub sort_by_rule_order-requires : goal.sort_by_rule_order-requires
sort_by_rule_order-requires c =
    let policy = c.self.inside.policy.now in
    let table = c.self.inside.table in
    let found = c.in_ok-found.found.items in
    let moved = subst (λ (r : ChosenRules). IsPermutation found (filter (joins r.policy c.args.source c.args.target) r.rules)) (sym c.self.view_is) c.in_ok-found.ensures in
    let facts = between_is policy table.rules.items table.sources.items table.targets.items c.args.source c.args.target found c.rules_have_one_order.ensures c.self.invariant.1.ends moved in
    subst (AreRules policy) (sym c.deref.ensures.value) facts.0

pub returns : goal.returns
returns c =
    let policy = c.self.inside.policy.now in
    let table = c.self.inside.table in
    let found = c.in_ok-found.found.items in
    let moved = subst (λ (r : ChosenRules). IsPermutation found (filter (joins r.policy c.args.source c.args.target) r.rules)) (sym c.self.view_is) c.in_ok-found.ensures in
    let facts = between_is policy table.rules.items table.sources.items table.targets.items c.args.source c.args.target found c.rules_have_one_order.ensures c.self.invariant.1.ends moved in record {
      found =
          subst (λ (ns : List ℕ). IfOk c.sort_by_rule_order.result (λ found. found.items ≡ ns))
          (ap (in_rule_order policy) c.deref.ensures.value ∙ facts.1 ∙ ap (λ (r : ChosenRules). rules_between r.policy r.rules c.args.source c.args.target) c.self.view_is) c.sort_by_rule_order.ensures.sorted;
      rules = subst (λ (r : ChosenRules). IfOk c.sort_by_rule_order.result (λ found. AreRules r.policy found.items)) c.self.view_is c.sort_by_rule_order.ensures.rules;
    }
