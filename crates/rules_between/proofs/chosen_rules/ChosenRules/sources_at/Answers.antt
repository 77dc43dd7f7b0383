use Rattle.std.proofs.Common.{◌≡◌, ℕ, List, [], ◌∷◌, length, ap, sym, subst, ◌∙◌, IfOk}
use Rattle.std.specs.List.{All, filter, list_any, range_with_len}
use Rattle.pol_bitmap.specs.declared.Node.{Node}
use Rattle.pol_bitmap.specs.Nodes.{bits_of}
use Rattle.value_groups.specs.Inner.Grouping.{group_of}
use Rattle.rules_between.specs.ChosenRules.{ChosenRules}
use Rattle.pol_expand.specs.JoinedTypes.{holds_type}
use Rattle.pol_expand.specs.Inner.StoredEnds.{IsEnd}
use Rattle.rules_between.specs.Inner.RuleTables.{any_at, is_other_end}
use Rattle.rules_between.proofs.Found.{groups_within, others_are_ends}
use Rattle.rules_between.proofs.Shared.{nil_of, no_sources_at, sources_at_are}
use Rattle.rules_between.proofs.chosen_rules.ChosenRules.sources_at.Goals as goal

pub returns-then-is_empty : goal.returns-then-is_empty
returns-then-is_empty c =
    let policy = c.self.inside.policy.now in
    let table = c.self.inside.table in
    let is_end = subst (λ (r : ChosenRules). IsEnd r.policy c.args.end) (sym c.self.view_is) c.requires in
    let none : group_of table.by_target c.args.end ≡ [] = sym c.places.ensures ∙ nil_of c.places.result.now (sym c.is_empty.ensures ∙ c.if-is_empty.true) in
    subst (λ (xs : List ℕ). IfOk c.empty.result (λ (set : List Node). bits_of set ≡ xs))
    (no_sources_at policy table.rules.items table.sources.items table.targets.items table.by_source table.by_target c.args.end c.self.invariant.1 is_end none
    ∙ ap (λ (r : ChosenRules). filter (any_at r.policy r.rules c.args.end) (range_with_len 1 r.policy.symbols.types.nprim)) c.self.view_is) c.empty.ensures.bits

pub other_ends-requires-clause-places : goal.other_ends-requires-clause-places
other_ends-requires-clause-places c =
    let table = c.self.inside.table in
    let is = c.self.invariant.1 in
    groups_within c.self.inside.policy.now.symbols.types.nprim table.targets.items table.by_target (length c.deref.result.now) is.targets_grouped (is.ends.targets_long ∙ sym is.ends.sources_long ∙ sym (ap (length {A = ℕ}) c.deref.ensures.value))

pub types_of-requires-clause-ends : goal.types_of-requires-clause-ends
types_of-requires-clause-ends c =
    let policy = c.self.inside.policy.now in
    let table = c.self.inside.table in
    let is = c.self.invariant.1 in
    subst (λ (ends : List ℕ). All (IsEnd policy) ends) (sym c.values.ensures.values)
    (others_are_ends policy table.sources.items table.by_target 0 (c.args.end ∷ []) c.in_ok-ends.ends.values is.ends.sources_are
    (groups_within policy.symbols.types.nprim table.targets.items table.by_target (length table.sources.items) is.targets_grouped (is.ends.targets_long ∙ sym is.ends.sources_long))
    (λ value. c.in_ok-ends.ensures value ∙ ap (λ (others : List ℕ). is_other_end others (group_of table.by_target) (c.args.end ∷ []) value) c.deref.ensures.value))

pub returns : goal.returns
returns c =
    let policy = c.self.inside.policy.now in
    let table = c.self.inside.table in
    let is_end = subst (λ (r : ChosenRules). IsEnd r.policy c.args.end) (sym c.self.view_is) c.requires in
    subst (λ (xs : List ℕ). IfOk c.types_of.result (λ (set : List Node). bits_of set ≡ xs))
    (ap (λ (es : List ℕ). filter (λ type. list_any (λ end. holds_type policy end type) es) (range_with_len 1 policy.symbols.types.nprim)) c.values.ensures.values
    ∙ sources_at_are policy table.rules.items table.sources.items table.targets.items table.by_source table.by_target c.args.end c.in_ok-ends.ends.values c.self.invariant.1 is_end
    (λ value. c.in_ok-ends.ensures value ∙ ap (λ (others : List ℕ). is_other_end others (group_of table.by_target) (c.args.end ∷ []) value) c.deref.ensures.value)
    ∙ ap (λ (r : ChosenRules). filter (any_at r.policy r.rules c.args.end) (range_with_len 1 r.policy.symbols.types.nprim)) c.self.view_is) c.types_of.ensures
