use Rattle.pol_datums.proofs.DatumLaws.{sensitivity_spelled, sensitivity_again}
use Rattle.pol_datums.proofs.laws.sensitivities_have_laws.Goals as goal

pub returns-clause-again : goal.returns-clause-again
returns-clause-again c = sensitivity_again

pub returns-clause-spelled : goal.returns-clause-spelled
returns-clause-spelled c = sensitivity_spelled
