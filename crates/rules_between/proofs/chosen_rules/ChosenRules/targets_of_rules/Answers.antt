use Rattle.std.proofs.Common.{◌≡◌, ℕ, List, ap, sym, subst, ◌∙◌, IfOk}
use Rattle.std.specs.List.{All, filter, list_any, range_with_len}
use Rattle.pol_bitmap.specs.declared.Node.{Node}
use Rattle.pol_bitmap.specs.Nodes.{bits_of}
use Rattle.rules_between.specs.ChosenRules.{ChosenRules, targets_of_rules}
use Rattle.pol_expand.specs.JoinedTypes.{holds_type}
use Rattle.rules_between.specs.Inner.RuleTables.{AreTargetsOf}
use Rattle.pol_expand.specs.Inner.StoredEnds.{IsEnd}
use Rattle.rules_between.proofs.ByOneEnd.{expanded}
use Rattle.rules_between.proofs.chosen_rules.ChosenRules.targets_of_rules.Goals as goal

pub types_of-requires-clause-ends : goal.types_of-requires-clause-ends
types_of-requires-clause-ends c =
    let are = subst (λ (r : ChosenRules). AreTargetsOf r.policy c.args.numbers.now c.in_ok-ends.ends.values) (sym c.self.view_is) c.in_ok-ends.ensures in
    subst (λ (ends : List ℕ). All (IsEnd c.self.inside.policy.now) ends) (sym c.values.ensures.values) are.are

pub returns : goal.returns
returns c =
    let policy = c.self.inside.policy.now in
    let numbers = c.args.numbers.now in
    let are = subst (λ (r : ChosenRules). AreTargetsOf r.policy numbers c.in_ok-ends.ends.values) (sym c.self.view_is) c.in_ok-ends.ensures in
    subst (λ (xs : List ℕ). IfOk c.types_of.result (λ (set : List Node). bits_of set ≡ xs))
    (ap (λ (es : List ℕ). filter (λ type. list_any (λ end. holds_type policy end type) es) (range_with_len 1 policy.symbols.types.nprim)) c.values.ensures.values
    ∙ expanded policy numbers c.in_ok-ends.ends.values are
    ∙ ap (λ (r : ChosenRules). targets_of_rules r.policy numbers) c.self.view_is) c.types_of.ensures
