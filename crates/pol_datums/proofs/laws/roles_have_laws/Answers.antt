use Rattle.pol_datums.proofs.DatumLaws.{role_spelled, role_again}
use Rattle.pol_datums.proofs.laws.roles_have_laws.Goals as goal

pub returns-clause-again : goal.returns-clause-again
returns-clause-again c = role_again

pub returns-clause-spelled : goal.returns-clause-spelled
returns-clause-spelled c = role_spelled
