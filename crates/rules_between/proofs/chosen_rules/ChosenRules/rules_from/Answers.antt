use Rattle.std.proofs.Common.{◌≡◌, ℕ, List, length, ap, sym, subst, ◌∙◌, IfOk}
use Rattle.std.proofs.lemmas.Result.{IfOk-weaker}
use Rattle.value_groups.specs.Inner.Grouping.{group_of}
use Rattle.rules_between.specs.ChosenRules.{AreRulesFrom, ChosenRules}
use Rattle.rules_between.specs.Inner.RuleTables.{rules_under}
use Rattle.rules_between.proofs.ByOneEnd.{rules_from_are}
use Rattle.rules_between.proofs.Found.{groups_within}
use Rattle.rules_between.proofs.chosen_rules.ChosenRules.rules_from.Goals as goal

pub rules_with-requires : goal.rules_with-requires
rules_with-requires c =
    let table = c.self.inside.table in
    let is = c.self.invariant.1 in
    groups_within c.self.inside.policy.now.symbols.types.nprim table.sources.items table.by_source (length c.deref.result.now) is.sources_grouped (is.ends.sources_long ∙ sym (ap (length {A = ℕ}) c.deref.ensures.value))

pub returns : goal.returns
returns c =
    let policy = c.self.inside.policy.now in
    let table = c.self.inside.table in
    let from = c.in_ok-from.from.values in
    subst (λ (r : ChosenRules). IfOk c.rules_with.result (λ found. AreRulesFrom r.policy r.rules c.args.source found.items)) c.self.view_is
    (IfOk-weaker c.rules_with.result (λ found. found.items ≡ rules_under c.deref.result.now (group_of table.by_source) c.values.result.now) (λ found. AreRulesFrom policy table.rules.items c.args.source found.items)
    (λ found is. rules_from_are policy table.rules.items table.sources.items table.targets.items table.by_source table.by_target c.args.source from found.items c.self.invariant.1 c.values.ensures.apart (record { each = c.in_ok-from.ensures.each; within = c.in_ok-from.ensures.within })
    (is ∙ ap (λ (rules : List ℕ). rules_under rules (group_of table.by_source) c.values.result.now) c.deref.ensures.value ∙ ap (λ (ends : List ℕ). rules_under table.rules.items (group_of table.by_source) ends) c.values.ensures.values))
    c.rules_with.ensures)
