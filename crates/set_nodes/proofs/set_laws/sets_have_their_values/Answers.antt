use Rattle.set_nodes.proofs.RisingValues.{values_set, values_bits, set_with_values}
use Rattle.set_nodes.proofs.set_laws.sets_have_their_values.Goals as goal

pub returns-clause-set : goal.returns-clause-set
returns-clause-set c = values_set

pub returns-clause-bits : goal.returns-clause-bits
returns-clause-bits c = values_bits

pub returns-clause-one : goal.returns-clause-one
returns-clause-one c values nodes = set_with_values nodes values
