use Rattle.pol_mls.proofs.MlsLaws.{level_spelled, level_again}
use Rattle.pol_mls.proofs.laws.levels_have_laws.Goals as goal

pub returns-clause-again : goal.returns-clause-again
returns-clause-again c = level_again

pub returns-clause-spelled : goal.returns-clause-spelled
returns-clause-spelled c = level_spelled
