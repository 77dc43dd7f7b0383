use Rattle.std.proofs.Common.{refl, ◌∙◌, arith}
use Rattle.pol_tree.proofs.Rows.{row_next, rows_all}
use Rattle.pol_tree.proofs.copied_lists.copy_rows.Goals as goal

pub loop-i-preserved : goal.loop-i-preserved
loop-i-preserved c =
    let next = row_next c.args.policy.now.labels.type_rows c.loop-i.i c.row.result c.row.ensures in
    rw c.in_ok-push.ensures.items (rw next (rw (c.in_ok-from_view.ensures.same, c.loop-i.invariant) refl))

pub returns : goal.returns
returns c = c.from_vec.ensures ∙ c.loop-i.invariant ∙ rows_all c.is_accepted.ensures.accepted.0 c.args.policy.now c.loop-i.i c.is_accepted.ensures.accepted.1 (omega arith)
