use Rattle.set_products.proofs.Ruling.{members_ruled}
use Rattle.set_products.proofs.place_laws.members_are_single_rules.Goals as goal

pub returns : goal.returns
returns c = members_ruled
