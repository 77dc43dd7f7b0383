use Rattle.set_nodes.proofs.SetBits.{rising_set, rising_bits, set_with_bits}
use Rattle.set_nodes.proofs.set_laws.sets_have_their_bits.Goals as goal

pub returns-clause-set : goal.returns-clause-set
returns-clause-set c = rising_set

pub returns-clause-bits : goal.returns-clause-bits
returns-clause-bits c = rising_bits

pub returns-clause-one : goal.returns-clause-one
returns-clause-one c bits nodes = set_with_bits nodes bits
