use Rattle.std.proofs.Common.{Ok, Vec, Global}
use Rattle.std.proofs.lemmas.Result.{err_from_is_err_and}
use Rattle.std.specs.List.{fold}
use Rattle.text_rows.specs.RowViews.{row_of}
use Rattle.check_list.specs.declared.check.Check.{Check}
use Rattle.check_list.specs.Checklists.{after_row, nothing}
use Rattle.check_list.proofs.ReadingRows.{rows_answer}
use Rattle.check_list.proofs.check_list.read_rows.Goals as goal

pub returns-in_err-written-in-Ok : goal.returns-in_err-written-in-Ok
returns-in_err-written-in-Ok c =
    let p = err_from_is_err_and c.from_residual.result c.from_residual.ensures.1 in
    let all = c.args.rows.now in
    rw (p.1, p.2) (rows_answer (λ (checks : Vec Check Global). checks.items) all.past c.loop-row.written c.in_err-written-in-Ok.field-0.0 (row_of c.in-Ok.row) c.loop-row.rows.rows c.next.new.self.rows (fold after_row (Ok nothing) all.rows)
    c.in-Ok.ensures.row c.in_err-written-in-Ok.ensures c.loop-row.invariant.0)
