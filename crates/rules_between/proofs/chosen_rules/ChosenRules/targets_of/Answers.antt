use Rattle.std.proofs.Common.{◌≡◌, ℕ, List, length, ap, sym, subst, ◌∙◌, IfOk}
use Rattle.std.specs.List.{All, filter, list_any, range_with_len}
use Rattle.pol_bitmap.specs.declared.Node.{Node}
use Rattle.pol_bitmap.specs.Nodes.{bits_of}
use Rattle.value_groups.specs.Inner.Grouping.{group_of}
use Rattle.rules_between.specs.ChosenRules.{ChosenRules}
use Rattle.pol_expand.specs.JoinedTypes.{holds_type, targets_from}
use Rattle.pol_expand.specs.Inner.StoredEnds.{IsEnd}
use Rattle.rules_between.specs.Inner.RuleTables.{is_other_end}
use Rattle.rules_between.proofs.Found.{targets_are, groups_within, others_are_ends}
use Rattle.rules_between.proofs.chosen_rules.ChosenRules.targets_of.Goals as goal

pub other_ends-requires-clause-places : goal.other_ends-requires-clause-places
other_ends-requires-clause-places c =
    let table = c.self.inside.table in
    let is = c.self.invariant.1 in
    groups_within c.self.inside.policy.now.symbols.types.nprim table.sources.items table.by_source (length c.deref.result.now) is.sources_grouped (is.ends.sources_long ∙ sym is.ends.targets_long ∙ sym (ap (length {A = ℕ}) c.deref.ensures.value))

pub types_of-requires-clause-ends : goal.types_of-requires-clause-ends
types_of-requires-clause-ends c =
    let policy = c.self.inside.policy.now in
    let table = c.self.inside.table in
    let is = c.self.invariant.1 in
    let from = c.in_ok-from.from.values in
    subst (λ (ends : List ℕ). All (IsEnd policy) ends) (sym c.values-2.ensures.values)
    (others_are_ends policy table.targets.items table.by_source 0 from c.in_ok-ends.ends.values is.ends.targets_are
    (groups_within policy.symbols.types.nprim table.sources.items table.by_source (length table.targets.items) is.sources_grouped (is.ends.sources_long ∙ sym is.ends.targets_long))
    (λ value. c.in_ok-ends.ensures value ∙ ap (λ (others : List ℕ). is_other_end others (group_of table.by_source) c.values.result.now value) c.deref.ensures.value ∙ ap (λ (f : List ℕ). is_other_end table.targets.items (group_of table.by_source) f value) c.values.ensures.values))

pub returns : goal.returns
returns c =
    let policy = c.self.inside.policy.now in
    let table = c.self.inside.table in
    let from = c.in_ok-from.from.values in
    let ends = c.in_ok-ends.ends.values in
    subst (λ (xs : List ℕ). IfOk c.types_of.result (λ (set : List Node). bits_of set ≡ xs))
    (ap (λ (es : List ℕ). filter (λ type. list_any (λ end. holds_type policy end type) es) (range_with_len 1 policy.symbols.types.nprim)) c.values-2.ensures.values
    ∙ targets_are policy table.rules.items table.sources.items table.targets.items table.by_source table.by_target c.args.source from ends c.self.invariant.1 (record { each = c.in_ok-from.ensures.each; within = c.in_ok-from.ensures.within })
    (λ value. c.in_ok-ends.ensures value ∙ ap (λ (others : List ℕ). is_other_end others (group_of table.by_source) c.values.result.now value) c.deref.ensures.value ∙ ap (λ (f : List ℕ). is_other_end table.targets.items (group_of table.by_source) f value) c.values.ensures.values)
    ∙ ap (λ (r : ChosenRules). targets_from r.policy r.rules c.args.source) c.self.view_is) c.types_of.ensures
