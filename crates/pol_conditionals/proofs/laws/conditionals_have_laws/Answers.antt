use Rattle.pol_conditionals.proofs.CondNodeLaws.{conditionals_again, conditionals_spelled, conditionals_unplaced}
use Rattle.pol_conditionals.proofs.laws.conditionals_have_laws.Goals as goal

pub returns-clause-again : goal.returns-clause-again
returns-clause-again c = conditionals_again

pub returns-clause-spelled : goal.returns-clause-spelled
returns-clause-spelled c = conditionals_spelled

pub returns-clause-unplaced : goal.returns-clause-unplaced
returns-clause-unplaced c = conditionals_unplaced
