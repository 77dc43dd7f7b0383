use Rattle.std.proofs.lemmas.Result.{err_from_is_err_and}
use Rattle.se_status.proofs.Puts.{puts-cut, puts-over}
use Rattle.se_status.proofs.message.put.Goals as goal

pub returns-in_err-write_all : goal.returns-in_err-write_all
returns-in_err-write_all g c =
    let p = err_from_is_err_and c.from_residual.result c.from_residual.ensures.1 in
    rw p.1 (puts-cut _ _ c.args.line.now.bytes _ c.args.text.now _ _ (rw (c.as_bytes.ensures.value, c.as_str.ensures.value, c.in-Err.ensures.err) at c.in_err-write_all.ensures))

pub returns : goal.returns
returns g c =
    puts-over _ _ _ c.args.line.now.bytes _ c.args.text.now _ _ (rw (c.as_bytes.ensures.value, c.as_str.ensures.value, c.in-Err.ensures.err) at c.in_ok-write_all.ensures)
    (rw c.as_bytes-2.ensures.value at c.write_all-2.ensures) c.clear.ensures
