use Rattle.se_items.proofs.PieceTexts.{item-added}
use Rattle.se_walks.proofs.walk_items.WalkItemsPieces.push_piece.Goals as goal

pub returns-clause-piece : goal.returns-clause-piece
returns-clause-piece g c = item-added _ _ _ _ _ c.advance.ensures.left c.in_ok-push_walk.ensures.text
