use Rattle.pol_classes.proofs.ClassForms.{class_alike}
use Rattle.pol_classes.proofs.laws.classes_have_two_forms.Goals as goal

pub returns : goal.returns
returns c = class_alike
