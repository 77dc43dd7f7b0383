use Rattle.std.proofs.lemmas.Result.{err_from_is_err_and}
use Rattle.tree_pages.proofs.Sent.{sent_cut, sent_then}
use Rattle.tree_pages.proofs.paged.Tuple2Paged.send.Goals as goal

pub returns-in_err-send : goal.returns-in_err-send
returns-in_err-send g c =
    let p = err_from_is_err_and c.from_residual.result c.from_residual.ensures.1 in
    rw (p.1, p.2) (sent_cut _ _ _ _ _ _ _ c.in_err-send.ensures)

pub returns : goal.returns
returns g c = sent_then _ _ _ _ _ _ _ _ _ _ c.in_ok-send.ensures c.send-2.ensures
