use Rattle.pol_datums.proofs.DatumLaws.{boolean_spelled, boolean_again}
use Rattle.pol_datums.proofs.laws.booleans_have_laws.Goals as goal

pub returns-clause-again : goal.returns-clause-again
returns-clause-again c = boolean_again

pub returns-clause-spelled : goal.returns-clause-spelled
returns-clause-spelled c = boolean_spelled
