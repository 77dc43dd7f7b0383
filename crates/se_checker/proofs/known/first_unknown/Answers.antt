use Rattle.se_checker.proofs.UnknownLines.{here, later}
use Rattle.se_checker.proofs.known.first_unknown.Goals as goal

pub returns-in-Some : goal.returns-in-Some
returns-in-Some c = here c.args.symbols.now c.args.list.now c.loop-i.i c.in-Some.line c.check.result.now c.check.ensures c.in-Some.ensures c.loop-i.invariant

pub loop-i-preserved : goal.loop-i-preserved
loop-i-preserved c = later c.args.symbols.now c.args.list.now c.loop-i.i c.check.result.now c.check.ensures c.in-None.ensures c.loop-i.invariant
