use Rattle.pol_expr.proofs.Stacks.{one_tree}
use Rattle.pol_constraints.proofs.ConstraintTexts.{constraint_tree, tree_is_text}
use Rattle.pol_constraints.proofs.laws.constraints_have_one_tree.Goals as goal

pub returns-clause-exists : goal.returns-clause-exists
returns-clause-exists c = constraint_tree

pub returns-clause-unique : goal.returns-clause-unique
returns-clause-unique c = one_tree

pub returns-clause-text : goal.returns-clause-text
returns-clause-text c = tree_is_text
