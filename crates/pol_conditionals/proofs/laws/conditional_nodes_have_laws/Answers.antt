use Rattle.pol_conditionals.proofs.CondNodeLaws.{condnode_again, condnode_spelled}
use Rattle.pol_conditionals.proofs.laws.conditional_nodes_have_laws.Goals as goal

pub returns-clause-again : goal.returns-clause-again
returns-clause-again c = condnode_again

pub returns-clause-spelled : goal.returns-clause-spelled
returns-clause-spelled c = condnode_spelled
