use Rattle.std.proofs.Common.{◌≡◌, ℕ, suc, List, length, ap, arith}
use Rattle.std.specs.List.{concat}
use Rattle.se_walks.specs.Numbered.{numbered}
use Rattle.se_walks.specs.WalkTexts.{end_item}
use Rattle.se_walks.proofs.edge_items.EdgeItemsPieces.push_piece.Goals as goal

pub returns-clause-piece : goal.returns-clause-piece
returns-clause-piece g c =
    let items = c.args.self.now in
    let text = end_item (g.T.EdgeTexts.words items.texts.now) items.node items.reverse in
    let next = c.in-Some.ensures.cases.0 in
    let long : length items.ends.now ≡ suc (length c.in-Some.others.now) = ap length next in
    record {
      piece = text items.number c.in-Some.end.now;
      left = ap (λ (ends : List ℕ). concat (numbered text items.number ends)) next;
      added = c.in_ok-push_end.ensures;
      nearer = omega (arith, long);
    }
