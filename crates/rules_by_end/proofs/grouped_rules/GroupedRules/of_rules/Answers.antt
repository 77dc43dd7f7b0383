use Rattle.std.proofs.Common.{refl, arith}
use Rattle.rules_by_end.proofs.RowPlaces.{row_steps, rows_are, rows_sorted}
use Rattle.rules_by_end.proofs.SortedParts.{sorted_back}
use Rattle.rules_by_end.proofs.grouped_rules.GroupedRules.of_rules.Goals as goal

pub sort_by_far_end-requires : goal.sort_by_far_end-requires
sort_by_far_end-requires c =
    rw (c.deref-2.ensures.value, c.deref_mut.ensures.value) (row_steps c.args.policy.now c.args.near c.args.numbers.now c.in_ok-starts.starts.items c.in_ok-rows.rows.items c.in_ok-starts.ensures c.in_ok-rows.ensures)

pub invariant_of-result : goal.invariant_of-result
invariant_of-result c =
    let starts = c.in_ok-starts.starts.items in
    let rows = c.in_ok-rows.rows in
    rows_sorted starts rows.items _ (row_steps c.args.policy.now c.args.near c.args.numbers.now starts rows.items c.in_ok-starts.ensures c.in_ok-rows.ensures)
    (sorted_back starts c.deref-2.result.now rows.items c.deref_mut.result.now c.sort_by_far_end.new.rows _ rows.len c.deref-2.ensures.value c.deref_mut.ensures.value (omega (arith, rows.ok.0)) c.sort_by_far_end.ensures refl)

pub returns : goal.returns
returns c =
    let starts = c.in_ok-starts.starts.items in
    let rows = c.in_ok-rows.rows in
    rows_are c.args.policy.now c.args.near c.args.numbers.now starts rows.items _ c.in_ok-starts.ensures c.in_ok-rows.ensures
    (sorted_back starts c.deref-2.result.now rows.items c.deref_mut.result.now c.sort_by_far_end.new.rows _ rows.len c.deref-2.ensures.value c.deref_mut.ensures.value (omega (arith, rows.ok.0)) c.sort_by_far_end.ensures refl)
