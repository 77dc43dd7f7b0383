use Rattle.pol_avtab.proofs.AvLaws.{table_again, table_spelled, table_unplaced}
use Rattle.pol_avtab.proofs.laws.tables_have_laws.Goals as goal

pub returns-clause-again : goal.returns-clause-again
returns-clause-again c = table_again

pub returns-clause-spelled : goal.returns-clause-spelled
returns-clause-spelled c = table_spelled

pub returns-clause-unplaced : goal.returns-clause-unplaced
returns-clause-unplaced c = table_unplaced
