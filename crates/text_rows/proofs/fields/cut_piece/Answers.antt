use Rattle.text_rows.proofs.PieceLemmas.{piece_cut, piece_whole}
use Rattle.text_rows.proofs.fields.cut_piece.Goals as goal

pub returns-in-Some : goal.returns-in-Some
returns-in-Some c = piece_cut c.args.text.now c.in-Some.end c.requires.begins c.in-Some.ensures

pub returns-in-None : goal.returns-in-None
returns-in-None c = piece_whole c.args.text.now c.requires.some c.in-None.ensures
