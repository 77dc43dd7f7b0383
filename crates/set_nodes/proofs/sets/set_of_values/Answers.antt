use Rattle.set_nodes.proofs.RisingValues.{made_of_values}
use Rattle.set_nodes.proofs.sets.set_of_values.Goals as goal

pub returns : goal.returns
returns c = made_of_values c.from_values.result c.args.values.items c.from_values.ensures.form c.from_values.ensures.bits
