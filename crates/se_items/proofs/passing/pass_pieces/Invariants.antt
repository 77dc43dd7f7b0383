use Rattle.se_items.proofs.PieceTexts.{Passed}
use Rattle.se_items.proofs.passing.pass_pieces.Given as goal

pub record Going (P Q : Type 0) : Type 0 where
  pub stands : P
  pub passed : Q

abbrev pub invariant-pieces : goal.invariant-pieces
invariant-pieces g l =
    Going (g.P.Pieces.stands l.pieces)
    (Passed (g.P.Pieces.left l.initial.pieces) (g.P.Pieces.left l.pieces) (g.S.Sink.state l.initial.out) (g.S.Sink.state l.out) l.initial.buffer.items l.buffer.items)

abbrev pub decreases-pieces : goal.decreases-pieces
decreases-pieces g l = (g.P.Pieces.left l.pieces).pieces
