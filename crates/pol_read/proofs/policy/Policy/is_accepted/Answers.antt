-- a policy keeps the bytes that were accepted as it
use Rattle.pol_file.proofs.Acceptances.{accepted_is_declared}
use Rattle.pol_read.proofs.policy.Policy.is_accepted.Goals as goal

pub returns-clause-accepted : goal.returns-clause-accepted
returns-clause-accepted c = rw (← c.self.view_is) (c.self.inside.bytes.now, c.self.invariant.0)

pub returns-clause-declared : goal.returns-clause-declared
returns-clause-declared c = rw (← c.self.view_is) (accepted_is_declared c.self.inside.bytes.now c.self.inside.parts c.self.invariant.0)
