use Rattle.std.proofs.Common.{sym}
use Rattle.pol_bitmap.proofs.SetSpelling.{last_end}
use Rattle.pol_bitmap.proofs.set_write.highbit_of.Goals as goal

pub returns-in-Some : goal.returns-in-Some
returns-in-Some c = last_end c.args.nodes.now c.in-Some.last.now (sym c.in-Some.ensures.value)
