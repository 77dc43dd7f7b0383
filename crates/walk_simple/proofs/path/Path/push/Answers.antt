use Rattle.std.proofs.Common.{arith}
use Rattle.walk_simple.proofs.path.Path.push.Goals as goal

pub overflow_add-self : goal.overflow_add-self
overflow_add-self c = omega (arith, c.self.invariant.0, c.self.invariant.1)
