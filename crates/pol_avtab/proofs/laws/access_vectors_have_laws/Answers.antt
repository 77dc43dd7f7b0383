use Rattle.std.proofs.Common.{Some, None}
use Rattle.pol_avtab.proofs.AvLaws.{av_spelled, av_again}
use Rattle.pol_avtab.proofs.laws.access_vectors_have_laws.Goals as goal

pub returns-clause-table_again : goal.returns-clause-table_again
returns-clause-table_again c = λ version keys. av_again version (Some keys)

pub returns-clause-table_spelled : goal.returns-clause-table_spelled
returns-clause-table_spelled c = λ version keys. av_spelled version (Some keys)

pub returns-clause-condition_again : goal.returns-clause-condition_again
returns-clause-condition_again c = λ version. av_again version None

pub returns-clause-condition_spelled : goal.returns-clause-condition_spelled
returns-clause-condition_spelled c = λ version. av_spelled version None
