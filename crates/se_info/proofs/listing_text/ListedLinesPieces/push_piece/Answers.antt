use Rattle.std.proofs.Common.{refl}
use Rattle.se_info.proofs.Lines.{line-added, no-lines}
use Rattle.se_info.proofs.listing_text.ListedLinesPieces.push_piece.Goals as goal

pub returns-then-count-eq0-clause-piece : goal.returns-then-count-eq0-clause-piece
returns-then-count-eq0-clause-piece g c = (no-lines c.args.self.now.indent.now (g.L.Lines.left c.args.self.now.lines) c.count.result c.count.ensures c.if-count-eq0.true, refl)

pub returns-clause-piece : goal.returns-clause-piece
returns-clause-piece g c = line-added _ _ _ _ _ c.in_ok-push_next.ensures
