use Rattle.std.proofs.Common.{◌≡◌, ℕ, List}
use Rattle.std.proofs.lemmas.Result.{IfOk-weaker}
use Rattle.rule_order.specs.Inner.Keys.{AreSortedNumbers}
use Rattle.rule_order.specs.RuleKeys.{AreGathered}
use Rattle.rule_order.specs.ListedOrder.{AreRules, in_rule_order}
use Rattle.rule_order.proofs.GatheredKeys.{numbers_in_order, numbers_are_rules}
use Rattle.rule_order.proofs.SortedNumbers.{are_declared}
use Rattle.rule_order.proofs.rule_keys.RuleKeys.sorted.Goals as goal

pub returns-clause-sorted : goal.returns-clause-sorted
returns-clause-sorted c =
    let policy = c.args.policy.now in
    let keys = c.self.inside.keys in
    let declared = are_declared c.is_accepted.ensures.accepted.0 policy c.is_accepted.ensures.accepted.1 in
    rw (← c.self.view_is) (IfOk-weaker c.sorted_numbers.result (λ v. AreSortedNumbers keys v.items) (λ v. (numbers : List ℕ) → AreGathered policy numbers keys → v.items ≡ in_rule_order policy numbers) (λ v are numbers gathered. numbers_in_order policy keys numbers v.items gathered are declared) c.sorted_numbers.ensures)

pub returns-clause-rules : goal.returns-clause-rules
returns-clause-rules c =
    let policy = c.args.policy.now in
    let keys = c.self.inside.keys in
    rw (← c.self.view_is) (IfOk-weaker c.sorted_numbers.result (λ v. AreSortedNumbers keys v.items) (λ v. (numbers : List ℕ) → AreGathered policy numbers keys → AreRules policy v.items) (λ v are numbers gathered. numbers_are_rules policy keys numbers v.items gathered are) c.sorted_numbers.ensures)
