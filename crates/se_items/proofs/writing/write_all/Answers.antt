use Rattle.std.proofs.Common.{arith}
use Rattle.se_items.proofs.Gains.{gains-kept, gains-piece, part-taken}
use Rattle.se_items.proofs.writing.write_all.Goals as goal

pub returns-in-Err : goal.returns-in-Err
returns-in-Err g c =
    let kept = gains-kept _ _ _ _ c.loop-at.invariant.gained c.in-Err.ensures.bytes in
    record { later = omega (arith, c.in-Err.ensures.later); whole = tt; part = part-taken _ _ _ _ kept; failed = omega (arith, c.in-Err.ensures.failed) }

pub loop-at-preserved : goal.loop-at-preserved
loop-at-preserved g c =
    record { within = omega (arith, c.in-Ok.ensures.some.1); later = omega (arith, c.in-Ok.ensures.later); gained = gains-piece _ _ _ _ _ _ c.loop-at.invariant.gained c.in-Ok.ensures.bytes }
