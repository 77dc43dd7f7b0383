use Rattle.std.proofs.Common.{ℕ, List, ◌++◌, ◌∙◌, ap, sym, subst}
use Rattle.std.specs.List.{flat_map}
use Rattle.std.specs.List.Sorted.{IsPermutation}
use Rattle.std.proofs.lemmas.List.Sorted.{IsPermutation-append_right}
use Rattle.std.proofs.lemmas.Result.{on_ok_weaker}
use Rattle.rules_by_end.specs.declared.rule_row.RuleRow.{RuleRow}
use Rattle.rules_by_end.specs.Inner.GroupedRules.{rules_of, rules_to}
use Rattle.rules_by_end.proofs.Permuted.{end_by_end}
use Rattle.rules_by_end.proofs.grouped_search.push_joining.Goals as goal

pub returns-then-rows-ends : goal.returns-then-rows-ends
returns-then-rows-ends c =
    let rows = c.args.rows.now in
    let old = c.args.found.now.items in
    let to = c.args.to.now.values in
    let all = IsPermutation-append_right old (flat_map (rules_of rows) to) (rules_to to rows) (end_by_end (λ (row : RuleRow). row.rule) (λ (row : RuleRow). row.far) rows to c.values-ends.ensures.apart) in
    on_ok_weaker c.push_rules_of_each.result
    (λ pushed. subst (λ (xs : List ℕ). IsPermutation xs (old ++ rules_to to rows)) (sym (pushed ∙ ap (λ (ends : List ℕ). old ++ flat_map (rules_of rows) ends) c.values-ends.ensures.values)) all) c.push_rules_of_each.ensures
