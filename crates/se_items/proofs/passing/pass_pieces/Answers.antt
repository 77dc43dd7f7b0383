use Rattle.std.proofs.lemmas.Result.{err_from_is_err_and}
use Rattle.se_items.proofs.PieceTexts.{piece-cut, piece-next, piece-stop}
use Rattle.se_items.proofs.passing.pass_pieces.Goals as goal

pub returns-in_err-push_piece : goal.returns-in_err-push_piece
returns-in_err-push_piece g c =
    let p = err_from_is_err_and c.from_residual.result c.from_residual.ensures.1 in
    rw (p.1, p.2) (piece-stop _ _ _ _ _ _ _ c.pieces.invariant.passed)

pub pieces-preserved : goal.pieces-preserved
pieces-preserved g c = record {
  stands = c.in_ok-push_piece.ensures.stands;
  passed = piece-next _ _ _ _ _ _ _ _ _ _ _ _ c.if-branch.true c.pieces.invariant.passed c.in_ok-push_piece.ensures.piece c.in_ok-spill.ensures.emits;
}

pub returns-in_err-spill : goal.returns-in_err-spill
returns-in_err-spill g c =
    let p = err_from_is_err_and c.from_residual-in_err-spill.result c.from_residual-in_err-spill.ensures.1 in
    rw (p.1, p.2) (piece-cut _ _ _ _ _ _ _ _ _ _ _ _ c.if-branch.true c.pieces.invariant.passed c.in_ok-push_piece.ensures.piece c.in_err-spill.ensures.emits)
