use Rattle.std.proofs.Common.{◌≡◌, ℕ, ◌-◌, ◌^◌, ◌≤◌, List, length, ap, ◌∙◌, arith}
use Rattle.std.specs.Prelude.{min}
use Rattle.std.specs.List.{filter, flat_map}
use Rattle.value_groups.specs.Inner.Grouping.{group_of}
use Rattle.rules_between.specs.ChosenRules.{ChosenRules, begins_at}
use Rattle.rules_between.proofs.TargetsAmong.{count_from, some_of}
use Rattle.rules_between.proofs.chosen_rules.ChosenRules.rule_count_from.Goals as goal

smaller : (n m most : ℕ) → n ≤ m → m ≤ most → min n most ≡ n
smaller n m most le fits = omega arith

pub returns : goal.returns
returns c =
    let policy = c.self.inside.policy.now in
    let table = c.self.inside.table in
    let rules = table.rules.items in
    c.place_count.ensures
    ∙ ap (λ (ends : List ℕ). min (length (flat_map (group_of table.by_source) ends)) (2 ^ 64 - 1)) c.values.ensures.values
    ∙ ap (λ (n : ℕ). min n (2 ^ 64 - 1))
    (count_from policy rules table.sources.items table.targets.items table.by_source table.by_target c.args.source c.in_ok-from.from.values c.self.invariant.1 c.values.ensures.apart (record { each = c.in_ok-from.ensures.each; within = c.in_ok-from.ensures.within }))
    ∙ smaller (length (filter (begins_at policy c.args.source) rules)) (length rules) (2 ^ 64 - 1) (some_of (begins_at policy c.args.source) rules) (omega (arith, table.rules.ok.0))
    ∙ ap (λ (r : ChosenRules). length (filter (begins_at r.policy c.args.source) r.rules)) c.self.view_is
