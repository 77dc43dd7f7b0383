use Rattle.std.proofs.Common.{◌∙◌}
use Rattle.text_rows.proofs.PieceLemmas.{begins_at, no_piece, pieces_from}
use Rattle.text_rows.proofs.fields.first_piece.Goals as goal

pub cut_piece-requires-clause-begins : goal.cut_piece-requires-clause-begins
cut_piece-requires-clause-begins c = begins_at c.args.text.now c.in-Some.start c.in-Some.ensures

pub returns-in-Some : goal.returns-in-Some
returns-in-Some c = pieces_from c.args.text.now c.in-Some.start c.in-Some.ensures ∙ c.cut_piece.ensures

pub returns-in-None : goal.returns-in-None
returns-in-None c = no_piece c.args.text.now c.in-None.ensures
