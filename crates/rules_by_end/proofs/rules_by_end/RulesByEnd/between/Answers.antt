use Rattle.std.proofs.Common.{ℕ, List, ap, sym, subst, ◌∙◌, IfOk}
use Rattle.std.specs.List.{filter}
use Rattle.std.specs.List.Sorted.{IsPermutation}
use Rattle.rules_by_end.specs.declared.source_or_target.RuleEnd.{RuleEnd}
use Rattle.rules_by_end.specs.RulesByEnd.{HoldRules, RulesByEnd}
use Rattle.rules_by_end.specs.Inner.GroupedRules.{joins_by}
use Rattle.rules_by_end.proofs.rules_by_end.RulesByEnd.between.Goals as goal

pub returns-in-Source : goal.returns-in-Source
returns-in-Source c =
    let near = ap (λ (r : RulesByEnd). r.near) (sym c.self.view_is) ∙ c.in-Source.is in
    subst (λ (end : RuleEnd). IfOk c.joining.result (λ found. (rules : List ℕ) → HoldRules c.args.self.now rules → IsPermutation found.items (filter (joins_by end c.args.self.now.policy c.args.source c.args.target) rules))) near c.joining.ensures

pub returns-in-Target : goal.returns-in-Target
returns-in-Target c =
    let near = ap (λ (r : RulesByEnd). r.near) (sym c.self.view_is) ∙ c.in-Target.is in
    subst (λ (end : RuleEnd). IfOk c.joining-in-Target.result (λ found. (rules : List ℕ) → HoldRules c.args.self.now rules → IsPermutation found.items (filter (joins_by end c.args.self.now.policy c.args.target c.args.source) rules))) near c.joining-in-Target.ensures
