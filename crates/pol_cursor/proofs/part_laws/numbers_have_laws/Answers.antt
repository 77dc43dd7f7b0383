use Rattle.pol_cursor.proofs.Laws.{Reads-number, Again-number}
use Rattle.pol_cursor.proofs.part_laws.numbers_have_laws.Goals as goal

pub returns-clause-again : goal.returns-clause-again
returns-clause-again c = λ field width. Again-number field width

pub returns-clause-spelled : goal.returns-clause-spelled
returns-clause-spelled c = Reads-number
