use Rattle.std.proofs.Common.{ℕ, List, refl, subst, IfOk}
use Rattle.std.specs.List.Sorted.{IsPermutation}
use Rattle.rules_by_end.specs.Inner.GroupedRules.{rules_joining}
use Rattle.rules_by_end.proofs.Rows.{found_joins}
use Rattle.rules_by_end.proofs.rules_by_end.RulesByEnd.joining.Goals as goal

pub returns : goal.returns
returns c = rw (← c.self.view_is) (
    found_joins c.is_accepted.ensures.accepted.0 (record { policy = c.self.inside.policy.now; near = c.self.inside.near; rows = c.self.inside.rows }) c.args.node c.args.other c.in_ok-from.from.values c.in_ok-to.to.values c.rules_joining.result
    c.is_accepted.ensures.accepted.1 c.in_ok-from.ensures.each c.in_ok-from.ensures.within c.values.ensures.apart (λ value is. c.in_ok-to.ensures.each value is refl)
    (subst (λ (from : List ℕ). IfOk c.rules_joining.result (λ found. IsPermutation found.items (rules_joining c.self.inside.rows from c.in_ok-to.to.values))) c.values.ensures.values c.rules_joining.ensures))
