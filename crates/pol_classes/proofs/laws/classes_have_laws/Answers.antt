use Rattle.pol_classes.proofs.ClassLaws.{class_spelled, class_again}
use Rattle.pol_classes.proofs.laws.classes_have_laws.Goals as goal

pub returns-clause-again : goal.returns-clause-again
returns-clause-again c = class_again

pub returns-clause-spelled : goal.returns-clause-spelled
returns-clause-spelled c = class_spelled
