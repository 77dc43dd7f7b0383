use Rattle.std.proofs.Common.{arith, ◌<◌}
use Rattle.se_tools.proofs.Turns.{turns-start, turns-more}
use Rattle.se_tools.proofs.reading.read_whole.Goals as goal

pub turns-init : goal.turns-init
turns-init g c = turns-start _ _ _ _ _ _ c.in-Ok.ensures.world c.in-Ok-with_capacity.ensures.items c.in-Ok.ensures.opens.this.opened

pub turns-preserved : goal.turns-preserved
turns-preserved g c =
    let some : 0 < c.in-Ok-read_on.count = omega arith in
    turns-more _ _ _ _ _ _ _ _ _ _ _ _ _ c.turns.invariant c.in-Ok-read_on.ensures.world c.in-Ok-read_on.ensures.reads.1 some c.in-Ok-read_on.ensures.reads.2 (omega arith)
