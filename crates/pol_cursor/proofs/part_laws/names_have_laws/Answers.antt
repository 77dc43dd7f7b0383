use Rattle.pol_cursor.proofs.NameLaws.{name_spelled, name_again}
use Rattle.pol_cursor.proofs.part_laws.names_have_laws.Goals as goal

pub returns-clause-again : goal.returns-clause-again
returns-clause-again c = λ len_field name_field. name_again len_field name_field

pub returns-clause-spelled : goal.returns-clause-spelled
returns-clause-spelled c = λ len_field name_field. name_spelled len_field name_field
