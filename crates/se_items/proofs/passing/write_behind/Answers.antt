use Rattle.std.proofs.lemmas.Result.{err_from_is_err_and}
use Rattle.se_items.proofs.PieceTexts.{behind-last-cut}
use Rattle.se_items.proofs.passing.write_behind.Goals as goal

pub returns-in_err-write_all : goal.returns-in_err-write_all
returns-in_err-write_all g c =
    let p = err_from_is_err_and c.from_residual-in_err-write_all.result c.from_residual-in_err-write_all.ensures.1 in
    rw (p.1, p.2) (behind-last-cut _ _ _ _ _ _ _ _ c.in_ok-pass_pieces.ensures (rw c.deref.ensures.value at c.in_err-write_all.ensures))
