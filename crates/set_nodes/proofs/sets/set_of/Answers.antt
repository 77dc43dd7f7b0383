use Rattle.set_nodes.proofs.SetBits.{made_of_bits}
use Rattle.set_nodes.proofs.sets.set_of.Goals as goal

pub returns : goal.returns
returns c = made_of_bits c.from_rising.result c.args.bits.now c.from_rising.ensures.form c.from_rising.ensures.bits
