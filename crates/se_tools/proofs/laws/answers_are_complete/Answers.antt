use Rattle.se_tools.proofs.Complete.{complete}
use Rattle.se_tools.proofs.laws.answers_are_complete.Goals as goal

pub returns : goal.returns
returns c = λ request world contents old new status. complete request world contents old new status
