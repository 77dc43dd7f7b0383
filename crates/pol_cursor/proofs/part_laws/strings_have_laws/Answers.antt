use Rattle.pol_cursor.proofs.Laws.{Reads-string, Again-string-of}
use Rattle.pol_cursor.proofs.part_laws.strings_have_laws.Goals as goal

pub returns-clause-again : goal.returns-clause-again
returns-clause-again c = Again-string-of

pub returns-clause-spelled : goal.returns-clause-spelled
returns-clause-spelled c = Reads-string
