use Rattle.pol_expr.proofs.ConditionLaws.{condition_again, condition_spelled}
use Rattle.pol_expr.proofs.laws.conditions_have_laws.Goals as goal

pub returns-clause-again : goal.returns-clause-again
returns-clause-again c = condition_again

pub returns-clause-spelled : goal.returns-clause-spelled
returns-clause-spelled c = condition_spelled
