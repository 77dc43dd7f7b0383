use Rattle.se_tools.proofs.Messages.{said-of}
use Rattle.se_tools.proofs.answer.run.Goals as goal

pub returns-clause-said : goal.returns-clause-said
returns-clause-said g c = said-of _ _ _ c.report.result c.report.ensures
