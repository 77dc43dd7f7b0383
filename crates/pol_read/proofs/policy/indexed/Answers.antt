use Rattle.pol_file.proofs.Acceptances.{accepted_has_type_values}
use Rattle.pol_read.proofs.policy.indexed.Goals as goal

pub invariant_of-result : goal.invariant_of-result
invariant_of-result c = (c.requires.accepted, accepted_has_type_values c.args.bytes.now c.args.parts c.requires.accepted, c.in_ok-index.ensures)
