use Rattle.std.proofs.lemmas.Result.{err_from_is_err_and}
use Rattle.pol_cursor.proofs.Writings.{listed_fails}
use Rattle.pol_cursor.proofs.part.RefSliceWritten.write.Goals as goal

pub returns-in_err-write : goal.returns-in_err-write
returns-in_err-write g c =
    let p = err_from_is_err_and c.from_residual.result c.from_residual.ensures.1 in
    rw p.1 (listed_fails g.W.Written.spelling c.args.self.now.now c.args.out.now.items c.loop-item.out.items c.write.new.out.items c.loop-item.item-index _ _ c.loop-item-test.true c.item-item.is c.loop-item.invariant c.in_err-write.ensures)
