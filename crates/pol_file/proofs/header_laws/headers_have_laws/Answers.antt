use Rattle.pol_file.proofs.HeaderLaws.{header_spelled, header_again}
use Rattle.pol_file.proofs.header_laws.headers_have_laws.Goals as goal

pub returns-clause-again : goal.returns-clause-again
returns-clause-again c = header_again

pub returns-clause-spelled : goal.returns-clause-spelled
returns-clause-spelled c = header_spelled
