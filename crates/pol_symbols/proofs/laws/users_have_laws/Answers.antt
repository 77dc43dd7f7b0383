use Rattle.pol_symbols.proofs.UserLaws.{user_spelled, user_again}
use Rattle.pol_symbols.proofs.laws.users_have_laws.Goals as goal

pub returns-clause-again : goal.returns-clause-again
returns-clause-again c = user_again

pub returns-clause-spelled : goal.returns-clause-spelled
returns-clause-spelled c = user_spelled
