use Rattle.std.proofs.Common.{◌≡◌, ℕ, List, None}
use Rattle.std.proofs.lemmas.Result.{IfOk-weaker}
use Rattle.rule_order.specs.ListedOrder.{in_rule_order}
use Rattle.rule_order.specs.FoundRules.{AreFound, first_ones, limit_of}
use Rattle.rule_query.specs.Meeting.{meeting}
use Rattle.rule_query.proofs.MetRules.{listed_are}
use Rattle.rule_query.proofs.query.Query.sorted.Goals as goal

pub returns : goal.returns
returns c = λ criteria is.
    let policy = c.args.policy.now in
    let found = c.add_all.new.found in
    IfOk-weaker c.sorted.result (λ v. (numbers : List ℕ) → AreFound policy numbers found → v.items ≡ first_ones (limit_of found) (in_rule_order policy numbers)) (λ v. v.items ≡ in_rule_order policy (meeting policy criteria))
    (λ v are. listed_are policy c.args.self.now found None v.items c.in_ok-add_all.ensures.limit c.in_ok-add_all.ensures.found are criteria is) c.sorted.ensures
