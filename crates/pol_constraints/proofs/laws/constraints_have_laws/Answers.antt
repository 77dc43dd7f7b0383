use Rattle.pol_constraints.proofs.ConstraintLaws.{constraint_again, constraint_spelled}
use Rattle.pol_constraints.proofs.laws.constraints_have_laws.Goals as goal

pub returns-clause-again : goal.returns-clause-again
returns-clause-again c = constraint_again

pub returns-clause-spelled : goal.returns-clause-spelled
returns-clause-spelled c = constraint_spelled
