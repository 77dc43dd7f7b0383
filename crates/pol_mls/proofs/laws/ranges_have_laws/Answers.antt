use Rattle.pol_mls.proofs.MlsLaws.{range_spelled, range_again}
use Rattle.pol_mls.proofs.laws.ranges_have_laws.Goals as goal

pub returns-clause-again : goal.returns-clause-again
returns-clause-again c = range_again

pub returns-clause-spelled : goal.returns-clause-spelled
returns-clause-spelled c = range_spelled
