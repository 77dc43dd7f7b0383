use Rattle.std.proofs.Common.{sym, ◌∙◌}
use Rattle.text_rows.proofs.LineLemmas.{line_cut, line_whole}
use Rattle.text_rows.proofs.rows.first_line.Goals as goal

pub returns-in-Some-clause-lines : goal.returns-in-Some-clause-lines
returns-in-Some-clause-lines c = line_cut c.args.bytes.now c.in-Some.end c.in-Some.ensures

pub returns-in-None-clause-lines : goal.returns-in-None-clause-lines
returns-in-None-clause-lines c = line_whole c.args.bytes.now (sym c.is_empty.ensures ∙ c.if-is_empty.false) c.in-None.ensures
