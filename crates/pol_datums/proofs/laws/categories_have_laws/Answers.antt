use Rattle.pol_datums.proofs.DatumLaws.{category_spelled, category_again}
use Rattle.pol_datums.proofs.laws.categories_have_laws.Goals as goal

pub returns-clause-again : goal.returns-clause-again
returns-clause-again c = category_again

pub returns-clause-spelled : goal.returns-clause-spelled
returns-clause-spelled c = category_spelled
