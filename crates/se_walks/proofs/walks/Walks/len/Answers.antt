use Rattle.std.proofs.Common.{arith}
use Rattle.se_walks.proofs.WalkSteps.{has-nodes}
use Rattle.se_walks.proofs.walks.Walks.len.Goals as goal

pub returns-in-Shortest-clause-some : goal.returns-in-Shortest-clause-some
returns-in-Shortest-clause-some c = let some = has-nodes _ _ _ (rw c.in-Shortest.is at c.requires) c.length.ensures.each in omega (arith, c.len.ensures, some)

pub returns-in-Simple-clause-some : goal.returns-in-Simple-clause-some
returns-in-Simple-clause-some c = let some = c.in-Simple.walks.some _ (rw c.in-Simple.is at c.requires) in omega (arith, c.len-in-Simple.ensures, some)
