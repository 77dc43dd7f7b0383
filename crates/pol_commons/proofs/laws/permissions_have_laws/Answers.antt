use Rattle.pol_commons.proofs.CommonLaws.{permission_spelled, permission_again}
use Rattle.pol_commons.proofs.laws.permissions_have_laws.Goals as goal

pub returns-clause-again : goal.returns-clause-again
returns-clause-again c = permission_again

pub returns-clause-spelled : goal.returns-clause-spelled
returns-clause-spelled c = permission_spelled
