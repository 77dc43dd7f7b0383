use Rattle.std.proofs.Common.{List, ℕ, ◌++◌, sym, ap, ◌∙◌, arith}
use Rattle.std.proofs.lemmas.List.{append-nil}
use Rattle.diff_constraints.proofs.FilledTexts.{no_pieces}
use Rattle.diff_constraints.proofs.filled_text.set_pieces.Goals as goal

pub returns : goal.returns
returns c =
    let made = c.loop-i.pieces.items in
    sym (append-nil made)
    ∙ ap (λ (pieces : List (List ℕ)). made ++ pieces) (sym (no_pieces c.loop-i.i c.args.old.now c.args.new.now (omega (arith, c.loop-i-test.false, c.min-i-end.ensures))))
    ∙ c.loop-i.invariant
