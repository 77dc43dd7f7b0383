use Rattle.std.proofs.Common.{◌≡◌, ◌+◌, ◌<◌, ◌≤◌, List, length, sym, ap, subst, ◌∙◌, arith}
use Rattle.std.specs.Prelude.{slice_index}
use Rattle.std.proofs.lemmas.List.{get_or_default}
use Rattle.rules_by_end.specs.declared.rule_row.RuleRow.{RuleRow}
use Rattle.rules_by_end.specs.RulesByEnd.{rows_under}
use Rattle.rules_by_end.specs.Inner.GroupedRules.{AreSortedIfMany}
use Rattle.rules_by_end.proofs.RowPlaces.{part_read, rows_past}
use Rattle.rules_by_end.proofs.grouped_rules.GroupedRules.under.Goals as goal

pub returns-then-place-len-clause-rows : goal.returns-then-place-len-clause-rows
returns-then-place-len-clause-rows c =
    let past : length c.self.inside.starts.items ≤ c.args.end + 1 = omega (arith, c.if-place-len.true, c.len.ensures, c.self.inside.starts.ok.0) in
    sym (rows_past c.self.inside.starts.items c.self.inside.rows.items c.args.end past) ∙ ap (λ (rows : List (List RuleRow)). rows_under rows c.args.end) c.self.view_is

pub offset_bounds-deref-start : goal.offset_bounds-deref-start
offset_bounds-deref-start c =
    let starts = c.self.inside.starts.items in
    let lt : c.args.end + 1 < length starts = omega (arith, c.if-place-len.false, c.len.ensures, c.self.inside.starts.ok.0) in
    let first : c.index-start.result.now ≡ slice_index starts c.args.end = c.index-start.ensures ∙ get_or_default starts c.args.end c.index-start.result.now 0 (omega (arith, lt)) in
    let size = ap (length {A = RuleRow}) c.deref.ensures.value in
    omega (arith, first, size, c.self.invariant.0.within c.args.end (omega (arith, lt)))

pub slice_bounds-result-count : goal.slice_bounds-result-count
slice_bounds-result-count c =
    let starts = c.self.inside.starts.items in
    let lt : c.args.end + 1 < length starts = omega (arith, c.if-place-len.false, c.len.ensures, c.self.inside.starts.ok.0) in
    let first : c.index-start.result.now ≡ slice_index starts c.args.end = c.index-start.ensures ∙ get_or_default starts c.args.end c.index-start.result.now 0 (omega (arith, lt)) in
    let second : c.index-stop.result.now ≡ slice_index starts (c.args.end + 1) = c.index-stop.ensures ∙ get_or_default starts (c.args.end + 1) c.index-stop.result.now 0 lt in
    omega (arith, first, second, c.self.invariant.0.rise c.args.end lt)

pub returns-clause-rows : goal.returns-clause-rows
returns-clause-rows c =
    let starts = c.self.inside.starts.items in
    let lt : c.args.end + 1 < length starts = omega (arith, c.if-place-len.false, c.len.ensures, c.self.inside.starts.ok.0) in
    part_read starts c.self.inside.rows.items c.deref.result.now c.args.end c.index-start.result.now c.index-stop.result.now lt c.index-start.ensures c.index-stop.ensures c.deref.ensures.value ∙ ap (λ (rows : List (List RuleRow)). rows_under rows c.args.end) c.self.view_is

pub returns-clause-rise : goal.returns-clause-rise
returns-clause-rise c =
    let starts = c.self.inside.starts.items in
    let lt : c.args.end + 1 < length starts = omega (arith, c.if-place-len.false, c.len.ensures, c.self.inside.starts.ok.0) in
    subst AreSortedIfMany (sym (part_read starts c.self.inside.rows.items c.deref.result.now c.args.end c.index-start.result.now c.index-stop.result.now lt c.index-start.ensures c.index-stop.ensures c.deref.ensures.value))
    (c.self.invariant.1 c.args.end)
