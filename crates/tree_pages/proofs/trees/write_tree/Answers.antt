use Rattle.std.proofs.lemmas.Result.{err_from_is_err_and}
use Rattle.se_items.proofs.PieceTexts.{behind-last-cut}
use Rattle.tree_pages.proofs.trees.write_tree.Goals as goal

pub returns-in_err-write_all : goal.returns-in_err-write_all
returns-in_err-write_all g c =
    let p = err_from_is_err_and c.from_residual-in_err-write_all.result c.from_residual-in_err-write_all.ensures.1 in
    rw (p.1, p.2) (behind-last-cut _ _ _ _ _ _ _ _ (rw c.in_ok-buffer.ensures at c.in_ok-send.ensures) (rw c.deref.ensures.value at c.in_err-write_all.ensures))
