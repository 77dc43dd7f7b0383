use Rattle.set_products.proofs.Stepping.{all_listed, only_listed}
use Rattle.set_products.proofs.place_laws.steps_give_all_members.Goals as goal

pub returns-clause-all : goal.returns-clause-all
returns-clause-all c ps next first steps h = all_listed ps next steps first h

pub returns-clause-left : goal.returns-clause-left
returns-clause-left c ps next at k seen steps h listing = only_listed ps next steps seen at k h listing
