use Rattle.pol_bitmap.proofs.Numbering.{numbered}
use Rattle.pol_bitmap.proofs.pool.Pool.put.Goals as goal

pub returns-clause-number : goal.returns-clause-number
returns-clause-number c = rw (← c.self.view_is) (numbered _ _ _ _ c.in_ok-index.ensures.keys c.in_ok-index.ensures.index)
