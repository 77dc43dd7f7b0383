use Rattle.std.proofs.Common.{◌≡◌, ◌∙◌, ℕ, List, ap, take}
use Rattle.std.proofs.lemmas.Result.{IfOk-weaker}
use Rattle.rule_order.specs.ListedOrder.{in_rule_order}
use Rattle.rule_order.specs.Inner.Keys.{numbers_in}
use Rattle.rule_order.specs.LeastKeys.{AreLeast}
use Rattle.rule_order.proofs.LeastRules.{first_numbers}
use Rattle.rule_order.proofs.SortedNumbers.{are_declared}
use Rattle.rule_order.proofs.least_keys.LeastKeys.sorted.Goals as goal

pub returns : goal.returns
returns c =
    let policy = c.args.policy.now in
    let least = c.args.self in
    let declared = are_declared c.is_accepted.ensures.accepted.0 policy c.is_accepted.ensures.accepted.1 in
    IfOk-weaker c.numbers_of.result (λ v. v.items ≡ numbers_in c.deref.result.now) (λ v. (numbers : List ℕ) → AreLeast policy numbers least → v.items ≡ take least.count (in_rule_order policy numbers))
    (λ v are numbers kept.
    are ∙ ap numbers_in (c.deref.ensures.value ∙ c.truncate.ensures.items)
    ∙ first_numbers policy declared numbers least kept c.sorted_keys-keys.result.items c.sorted_keys-keys.ensures.same c.sorted_keys-keys.ensures.rise)
    c.numbers_of.ensures
