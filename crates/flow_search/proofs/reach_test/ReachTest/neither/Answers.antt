use Rattle.std.proofs.Common.{sym}
use Rattle.flow_search.proofs.ReachedWeights.{not_le_zero}
use Rattle.flow_search.proofs.reach_test.ReachTest.neither.Goals as goal

pub returns-clause-out : goal.returns-clause-out
returns-clause-out c = rw (← c.self.view_is) (sym (not_le_zero c.self.inside.least c.self.invariant.some))

pub returns-clause-into : goal.returns-clause-into
returns-clause-into c = rw (← c.self.view_is) (sym (not_le_zero c.self.inside.least c.self.invariant.some))
