use Rattle.std.proofs.Common.{◌≡◌, ◌-◌, ◌∙◌, List, length, refl, ap, slice_get}
use Rattle.rule_order.specs.declared.keys.Key.{Key}
use Rattle.rule_order.specs.declared.least_keys.LeastKeys.{LeastKeys}
use Rattle.rule_order.proofs.LeastRules.{first_left}
use Rattle.rule_order.proofs.SortedNumbers.{are_declared}
use Rattle.rule_order.proofs.least_keys.LeastKeys.leave_least.Goals as goal

pub returns-clause-least : goal.returns-clause-least
returns-clause-least c numbers least =
    let policy = c.args.policy.now in
    let had = c.args.self.now in
    let has : LeastKeys = record { keys = c.truncate.new.self; count = had.count; last = c.last_of-self.result } in
    let last : has.last ≡ slice_get has.keys.items (length has.keys.items - 1) = c.last_of-self.ensures ∙ ap (λ (keys : List Key). slice_get keys (length keys - 1)) c.deref.ensures.value in
    first_left policy (are_declared c.is_accepted.ensures.accepted.0 policy c.is_accepted.ensures.accepted.1) numbers had least c.sort_unstable.new.self.items c.sort_unstable.ensures.permutation c.sort_unstable.ensures.sorted
    has refl c.truncate.ensures.items last c.requires
