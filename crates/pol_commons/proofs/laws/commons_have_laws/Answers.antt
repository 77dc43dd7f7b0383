use Rattle.pol_commons.proofs.CommonLaws.{common_spelled, common_again}
use Rattle.pol_commons.proofs.laws.commons_have_laws.Goals as goal

pub returns-clause-again : goal.returns-clause-again
returns-clause-again c = common_again

pub returns-clause-spelled : goal.returns-clause-spelled
returns-clause-spelled c = common_spelled
