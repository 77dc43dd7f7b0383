use Rattle.std.proofs.Common.{◌≡◌, ℕ, List, length, ap, sym, subst, ◌∙◌, IfOk}
use Rattle.std.specs.List.{All, filter, list_any, range_with_len}
use Rattle.pol_bitmap.specs.declared.Node.{Node}
use Rattle.pol_bitmap.specs.Nodes.{bits_of}
use Rattle.value_groups.specs.Inner.Grouping.{group_of}
use Rattle.rules_between.specs.ChosenRules.{ChosenRules, sources_to_any}
use Rattle.pol_expand.specs.JoinedTypes.{holds_type}
use Rattle.pol_expand.specs.Inner.StoredEnds.{IsEnd}
use Rattle.rules_between.specs.Inner.RuleTables.{is_other_end}
use Rattle.rules_between.proofs.Found.{touching_ends, any_sources_are, groups_within, others_are_ends}
use Rattle.rules_between.proofs.chosen_rules.ChosenRules.sources_of_any.Goals as goal

pub other_ends-requires-clause-places : goal.other_ends-requires-clause-places
other_ends-requires-clause-places c =
    let table = c.self.inside.table in
    let is = c.self.invariant.1 in
    groups_within c.self.inside.policy.now.symbols.types.nprim table.targets.items table.by_target (length c.deref.result.now) is.targets_grouped (is.ends.targets_long ∙ sym is.ends.sources_long ∙ sym (ap (length {A = ℕ}) c.deref.ensures.value))

pub types_of-requires-clause-ends : goal.types_of-requires-clause-ends
types_of-requires-clause-ends c =
    let policy = c.self.inside.policy.now in
    let table = c.self.inside.table in
    let is = c.self.invariant.1 in
    let from = c.in_ok-to.to.items in
    subst (λ (ends : List ℕ). All (IsEnd policy) ends) (sym c.values.ensures.values)
    (others_are_ends policy table.sources.items table.by_target 0 from c.in_ok-ends.ends.values is.ends.sources_are
    (groups_within policy.symbols.types.nprim table.targets.items table.by_target (length table.sources.items) is.targets_grouped (is.ends.targets_long ∙ sym is.ends.sources_long))
    (λ value. c.in_ok-ends.ensures value ∙ ap (λ (others : List ℕ). is_other_end others (group_of table.by_target) c.deref-2.result.now value) c.deref.ensures.value ∙ ap (λ (f : List ℕ). is_other_end table.sources.items (group_of table.by_target) f value) c.deref-2.ensures.value))

pub returns : goal.returns
returns c =
    let policy = c.self.inside.policy.now in
    let table = c.self.inside.table in
    let from = c.in_ok-to.to.items in
    let ends = c.in_ok-ends.ends.values in
    subst (λ (xs : List ℕ). IfOk c.types_of.result (λ (set : List Node). bits_of set ≡ xs))
    (ap (λ (es : List ℕ). filter (λ type. list_any (λ end. holds_type policy end type) es) (range_with_len 1 policy.symbols.types.nprim)) c.values.ensures.values
    ∙ any_sources_are policy table.rules.items table.sources.items table.targets.items table.by_source table.by_target (bits_of c.args.targets.now) from ends c.self.invariant.1 (touching_ends policy table.by_target c.self.inside.types.now c.args.targets.now (bits_of c.in_ok-touching.touching) from c.self.invariant.0 c.in_ok-touching.ensures c.in_ok-to.ensures)
    (λ value. c.in_ok-ends.ensures value ∙ ap (λ (others : List ℕ). is_other_end others (group_of table.by_target) c.deref-2.result.now value) c.deref.ensures.value ∙ ap (λ (f : List ℕ). is_other_end table.sources.items (group_of table.by_target) f value) c.deref-2.ensures.value)
    ∙ ap (λ (r : ChosenRules). sources_to_any r.policy r.rules (bits_of c.args.targets.now)) c.self.view_is) c.types_of.ensures
