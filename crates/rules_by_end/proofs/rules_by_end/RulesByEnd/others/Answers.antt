use Rattle.std.proofs.Common.{◌≡◌, ℕ, List, ap, sym, subst, ◌∙◌, IfOk}
use Rattle.std.specs.List.{All, filter, list_any, range_with_len}
use Rattle.pol_bitmap.specs.declared.Node.{Node}
use Rattle.pol_bitmap.specs.Nodes.{bits_of}
use Rattle.pol_expand.specs.JoinedTypes.{holds_type}
use Rattle.pol_expand.specs.Inner.StoredEnds.{IsEnd}
use Rattle.rules_by_end.specs.Inner.GroupedRules.{is_far_end}
use Rattle.rules_by_end.proofs.Rows.{far_are_ends, found_others}
use Rattle.rules_by_end.proofs.rules_by_end.RulesByEnd.others.Goals as goal

pub types_of-requires-clause-ends : goal.types_of-requires-clause-ends
types_of-requires-clause-ends c =
    subst (λ (ends : List ℕ). All (IsEnd c.self.inside.policy.now) ends) (sym c.values-2.ensures.values)
    (far_are_ends c.self.inside.policy.now c.self.inside.rows c.values.result.now c.in_ok-ends.ends.values c.self.invariant.1 c.in_ok-ends.ensures)

pub returns : goal.returns
returns c = rw (← c.self.view_is) (
    found_others c.is_accepted.ensures.accepted.0 (record { policy = c.self.inside.policy.now; near = c.self.inside.near; rows = c.self.inside.rows }) c.args.node c.in_ok-from.from.values c.in_ok-ends.ends.values c.types_of.result
    c.is_accepted.ensures.accepted.1 c.in_ok-from.ensures.each c.in_ok-from.ensures.within
    (λ value. c.in_ok-ends.ensures value ∙ ap (λ (from : List ℕ). is_far_end c.self.inside.rows from value) c.values.ensures.values)
    (subst (λ (ends : List ℕ). IfOk c.types_of.result (λ (set : List Node). bits_of set ≡ filter (λ type. list_any (λ end. holds_type c.self.inside.policy.now end type) ends) (range_with_len 1 c.self.inside.policy.now.symbols.types.nprim))) c.values-2.ensures.values c.types_of.ensures))
