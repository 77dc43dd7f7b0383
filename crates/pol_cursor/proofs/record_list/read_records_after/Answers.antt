use Rattle.std.proofs.Common.{refl, [], ◌∷◌, length-append, arith}
use Rattle.std.proofs.lemmas.Result.{err_from_is_err_and}
use Rattle.pol_cursor.proofs.ContextLists.{GoingAfter-start, GoingAfter-next, GoingAfter-fails, GoingAfter-end}
use Rattle.pol_cursor.proofs.record_list.read_records_after.Goals as goal

pub loop-init : goal.loop-init
loop-init g c = rw c.new-places.ensures.items (GoingAfter-start g.K.Record.standing g.K.Record.has g.K.ReadAfter.reads g.K.ReadAfter.after c.args.n c.args.context c.args.c.now c.bytes-bytes.result.now c.bytes-bytes.ensures.all, refl)

pub returns-in_err-context-clause-exact : goal.returns-in_err-context-clause-exact
returns-in_err-context-clause-exact g c =
    let p = err_from_is_err_and c.from_residual.result c.from_residual.ensures.1 in
    rw (p.1, p.2) (GoingAfter-fails g.K.Record.standing g.K.Record.has g.K.ReadAfter.reads g.K.ReadAfter.after c.args.n c.args.context c.args.c.now c.bytes-bytes.result.now
    c.loop.counter c.loop.context c.loop.c c.loop.places.items c.in_err-context.field-0.0 c.loop-test.true c.in_err-context.ensures.exact c.loop.invariant.0)

pub loop-preserved : goal.loop-preserved
loop-preserved g c =
    rw c.in_ok-push.ensures.items (
      GoingAfter-next g.K.Record.standing g.K.Record.has g.K.ReadAfter.reads g.K.ReadAfter.after c.args.n c.args.context c.args.c.now c.bytes-bytes.result.now c.loop.counter c.loop.context c.loop.c c.loop.places.items c.pass.new.c c.place-place.result c.in_ok-context.context
          c.place-place.ensures c.loop-test.true c.in_ok-context.ensures.exact c.in_ok-context.ensures.stands c.in_ok-context.ensures.after c.loop.invariant.0,
      omega (arith, length-append c.loop.places.items (c.place-place.result ∷ []), c.loop.invariant.1),
    )

pub returns : goal.returns
returns g c =
    let read = GoingAfter-end g.K.Record.standing g.K.Record.has g.K.ReadAfter.reads g.K.ReadAfter.after c.args.n c.args.context c.args.c.now c.bytes-bytes.result.now c.loop.counter c.loop.context c.loop.c c.loop.places.items c.loop-test.false c.loop.invariant.0 in
    record { exact = rw c.none.ensures read; after = rw c.none.ensures c.loop.invariant.0.made }
