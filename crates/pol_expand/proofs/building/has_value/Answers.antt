use Rattle.pol_expand.proofs.Values.{has_is}
use Rattle.pol_expand.proofs.building.has_value.Goals as goal

pub returns : goal.returns
returns c = has_is c.has.result c.args.set.now c.args.value c.has.ensures
