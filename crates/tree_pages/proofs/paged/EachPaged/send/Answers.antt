use Rattle.std.proofs.lemmas.Result.{err_from_is_err_and}
use Rattle.tree_pages.proofs.Sent.{records_cut, records_next}
use Rattle.tree_pages.proofs.paged.EachPaged.send.Goals as goal

pub returns-in_err-send_part : goal.returns-in_err-send_part
returns-in_err-send_part g c =
    let p = err_from_is_err_and c.from_residual.result c.from_residual.ensures.1 in
    rw (p.1, p.2) (records_cut g.W.Written.spelling c.args.self.now.0.now c.loop-record.record-index c.record-item.result _ _ _ _ _ _ c.loop-record-test.true c.loop-record.invariant _ (rw c.record-item.is at c.in_err-send_part.ensures))

pub loop-record-preserved : goal.loop-record-preserved
loop-record-preserved g c =
    records_next g.W.Written.spelling c.args.self.now.0.now c.loop-record.record-index c.record-item.result _ _ _ _ _ _ c.loop-record-test.true c.loop-record.invariant _ (rw c.record-item.is at c.in_ok-send_part.ensures)
