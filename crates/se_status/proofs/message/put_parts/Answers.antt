use Rattle.std.proofs.lemmas.Result.{err_from_is_err_and}
use Rattle.se_status.specs.Message.{part_text}
use Rattle.se_status.proofs.Puts.{all-more, all-stop}
use Rattle.se_status.proofs.message.put_parts.Goals as goal

pub returns-in_err-put_part : goal.returns-in_err-put_part
returns-in_err-put_part g c =
    let p = err_from_is_err_and c.from_residual.result c.from_residual.ensures.1 in
    rw p.1 (all-stop part_text c.args.parts.now c.loop-part.part-index _ _ _ _ _ _ _ _ _ c.loop-part-test.true c.loop-part.invariant c.in_err-put_part.ensures)

pub loop-part-preserved : goal.loop-part-preserved
loop-part-preserved g c = all-more part_text c.args.parts.now c.loop-part.part-index _ _ _ _ _ _ _ _ c.loop-part-test.true c.loop-part.invariant c.in_ok-put_part.ensures
