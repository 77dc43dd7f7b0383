use Rattle.std.proofs.Common.{ℕ, length, ap, sym, ◌∙◌}
use Rattle.rules_between.specs.ChosenRules.{ChosenRules}
use Rattle.pol_expand.specs.JoinedTypes.{any_joins, holds_type, joins}
use Rattle.rules_between.proofs.Found.{any_by, by_sources, by_targets, groups_within}
use Rattle.rules_between.proofs.chosen_rules.ChosenRules.has_between.Goals as goal

pub has_rule-requires : goal.has_rule-requires
has_rule-requires c =
    let table = c.self.inside.table in
    let is = c.self.invariant.1 in
    groups_within c.self.inside.policy.now.symbols.types.nprim table.sources.items table.by_source (length c.deref.result.now) is.sources_grouped (is.ends.sources_long ∙ sym is.ends.targets_long ∙ sym (ap (length {A = ℕ}) c.deref.ensures.value))

pub returns-then-begin-end : goal.returns-then-begin-end
returns-then-begin-end c =
    let policy = c.self.inside.policy.now in
    let table = c.self.inside.table in
    let rules = table.rules.items in
    let are = by_sources policy rules table.sources.items table.targets.items table.by_source table.by_target c.args.source c.args.target c.self.invariant.1 in
    any_by policy rules table.sources.items table.targets.items table.by_source table.by_target (joins policy c.args.source c.args.target) (λ value. holds_type policy value c.args.source) c.args.target are c.in_ok-from.from.values
    (record { each = c.in_ok-from.ensures.each; within = c.in_ok-from.ensures.within }) c.in_ok-to.to.values c.deref.result.now c.values-then-begin-end.result.now c.has_rule.result (record { each = c.in_ok-to.ensures.each; within = c.in_ok-to.ensures.within })
    c.has_rule.ensures c.deref.ensures.value c.values-then-begin-end.ensures.values
    ∙ ap (λ (r : ChosenRules). any_joins r.policy r.rules c.args.source c.args.target) c.self.view_is

pub has_rule-requires-else-begin-end : goal.has_rule-requires-else-begin-end
has_rule-requires-else-begin-end c =
    let table = c.self.inside.table in
    let is = c.self.invariant.1 in
    groups_within c.self.inside.policy.now.symbols.types.nprim table.targets.items table.by_target (length c.deref-else-begin-end.result.now) is.targets_grouped
    (is.ends.targets_long ∙ sym is.ends.sources_long ∙ sym (ap (length {A = ℕ}) c.deref-else-begin-end.ensures.value))

pub returns : goal.returns
returns c =
    let policy = c.self.inside.policy.now in
    let table = c.self.inside.table in
    let rules = table.rules.items in
    let are = by_targets policy rules table.sources.items table.targets.items table.by_source table.by_target c.args.source c.args.target c.self.invariant.1 in
    any_by policy rules table.targets.items table.sources.items table.by_target table.by_source (joins policy c.args.source c.args.target) (λ value. holds_type policy value c.args.target) c.args.source are c.in_ok-to.to.values
    (record { each = c.in_ok-to.ensures.each; within = c.in_ok-to.ensures.within }) c.in_ok-from.from.values c.deref-else-begin-end.result.now c.values-else-begin-end.result.now c.has_rule-else-begin-end.result
    (record { each = c.in_ok-from.ensures.each; within = c.in_ok-from.ensures.within }) c.has_rule-else-begin-end.ensures c.deref-else-begin-end.ensures.value c.values-else-begin-end.ensures.values
    ∙ ap (λ (r : ChosenRules). any_joins r.policy r.rules c.args.source c.args.target) c.self.view_is
