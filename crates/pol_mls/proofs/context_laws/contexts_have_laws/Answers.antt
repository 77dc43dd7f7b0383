use Rattle.pol_mls.proofs.ContextLaws.{context_spelled, context_again}
use Rattle.pol_mls.proofs.context_laws.contexts_have_laws.Goals as goal

pub returns-clause-again : goal.returns-clause-again
returns-clause-again c = context_again

pub returns-clause-spelled : goal.returns-clause-spelled
returns-clause-spelled c = context_spelled
