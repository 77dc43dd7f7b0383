use Rattle.pol_datums.proofs.DatumLaws.{type_spelled, type_again}
use Rattle.pol_datums.proofs.laws.types_have_laws.Goals as goal

pub returns-clause-again : goal.returns-clause-again
returns-clause-again c = type_again

pub returns-clause-spelled : goal.returns-clause-spelled
returns-clause-spelled c = type_spelled
