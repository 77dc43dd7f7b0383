use Rattle.std.proofs.Common.{◌≡◌, ℕ, length, ap, sym, subst, ◌∙◌, IfOk}
use Rattle.std.specs.List.{filter}
use Rattle.std.specs.List.Sorted.{IsPermutation}
use Rattle.std.proofs.lemmas.Result.{IfOk-weaker}
use Rattle.value_groups.specs.Inner.Grouping.{group_of}
use Rattle.rules_between.specs.ChosenRules.{ChosenRules}
use Rattle.pol_expand.specs.JoinedTypes.{holds_type, joins}
use Rattle.rules_between.specs.Inner.RuleTables.{rules_found}
use Rattle.rules_between.proofs.Found.{by_sources, by_targets, found_by, groups_within}
use Rattle.rules_between.proofs.chosen_rules.ChosenRules.joining.Goals as goal

pub found_rules-requires-clause-rules : goal.found_rules-requires-clause-rules
found_rules-requires-clause-rules c =
    let table = c.self.inside.table in
    let is = c.self.invariant.1 in
    groups_within c.self.inside.policy.now.symbols.types.nprim table.sources.items table.by_source (length c.deref.result.now) is.sources_grouped (is.ends.sources_long ∙ sym (ap (length {A = ℕ}) c.deref.ensures.value))

pub returns-then-begin-end : goal.returns-then-begin-end
returns-then-begin-end c =
    let policy = c.self.inside.policy.now in
    let table = c.self.inside.table in
    let rules = table.rules.items in
    let from = c.in_ok-from.from.values in
    let to = c.in_ok-to.to.values in
    let joined = joins policy c.args.source c.args.target in
    let own_rules = c.deref.result.now in
    let own_targets = c.deref-then-begin-end.result.now in
    let own_from = c.values-then-begin-end.result.now in
    let are = by_sources policy rules table.sources.items table.targets.items table.by_source table.by_target c.args.source c.args.target c.self.invariant.1 in
    subst (λ (r : ChosenRules). IfOk c.found_rules.result (λ found. IsPermutation found.items (filter (joins r.policy c.args.source c.args.target) r.rules))) c.self.view_is
    (IfOk-weaker c.found_rules.result (λ found. found.items ≡ rules_found own_rules own_targets (group_of table.by_source) own_from to) (λ found. IsPermutation found.items (filter joined rules))
    (λ found is. found_by policy rules table.sources.items table.targets.items table.by_source table.by_target joined (λ value. holds_type policy value c.args.source) c.args.target are from (record { each = c.in_ok-from.ensures.each; within = c.in_ok-from.ensures.within }) to
    own_rules own_targets own_from found.items c.values-then-begin-end.ensures.apart (record { each = c.in_ok-to.ensures.each; within = c.in_ok-to.ensures.within }) is c.deref.ensures.value c.deref-then-begin-end.ensures.value c.values-then-begin-end.ensures.values)
    c.found_rules.ensures)

pub found_rules-requires-else-begin-end-clause-rules : goal.found_rules-requires-else-begin-end-clause-rules
found_rules-requires-else-begin-end-clause-rules c =
    let table = c.self.inside.table in
    let is = c.self.invariant.1 in
    groups_within c.self.inside.policy.now.symbols.types.nprim table.targets.items table.by_target (length c.deref-else-begin-end.result.now) is.targets_grouped (is.ends.targets_long ∙ sym (ap (length {A = ℕ}) c.deref-else-begin-end.ensures.value))

pub returns : goal.returns
returns c =
    let policy = c.self.inside.policy.now in
    let table = c.self.inside.table in
    let rules = table.rules.items in
    let from = c.in_ok-from.from.values in
    let to = c.in_ok-to.to.values in
    let joined = joins policy c.args.source c.args.target in
    let own_rules = c.deref-else-begin-end.result.now in
    let own_sources = c.deref-else-begin-end-2.result.now in
    let own_to = c.values-else-begin-end.result.now in
    let are = by_targets policy rules table.sources.items table.targets.items table.by_source table.by_target c.args.source c.args.target c.self.invariant.1 in
    subst (λ (r : ChosenRules). IfOk c.found_rules-else-begin-end.result (λ found. IsPermutation found.items (filter (joins r.policy c.args.source c.args.target) r.rules))) c.self.view_is
    (IfOk-weaker c.found_rules-else-begin-end.result (λ found. found.items ≡ rules_found own_rules own_sources (group_of table.by_target) own_to from) (λ found. IsPermutation found.items (filter joined rules))
    (λ found is. found_by policy rules table.targets.items table.sources.items table.by_target table.by_source joined (λ value. holds_type policy value c.args.target) c.args.source are to (record { each = c.in_ok-to.ensures.each; within = c.in_ok-to.ensures.within }) from
    own_rules own_sources own_to found.items c.values-else-begin-end.ensures.apart (record { each = c.in_ok-from.ensures.each; within = c.in_ok-from.ensures.within }) is c.deref-else-begin-end.ensures.value c.deref-else-begin-end-2.ensures.value
    c.values-else-begin-end.ensures.values)
    c.found_rules-else-begin-end.ensures)
