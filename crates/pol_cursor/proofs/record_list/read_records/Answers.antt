use Rattle.std.proofs.Common.{refl, [], ◌∷◌, length-append, arith}
use Rattle.std.proofs.lemmas.Result.{err_from_is_err_and}
use Rattle.pol_cursor.specs.Parts.{records_at}
use Rattle.pol_cursor.specs.References.{placed}
use Rattle.pol_cursor.proofs.Lists.{GoingAt-next, GoingAt-bad, GoingAt-end, placed_in, placed_got, placed_bad}
use Rattle.pol_cursor.proofs.record_list.read_records.Goals as goal

pub returns-in_err-pass : goal.returns-in_err-pass
unfolding records_at
returns-in_err-pass g c =
    let p = err_from_is_err_and c.from_residual.result c.from_residual.ensures.1 in
    rw (p.1, p.2) (GoingAt-bad {S = Unit {0}} (placed_in g.K.Record.standing) g.K.Record.has (λ left context. placed g.K.ReadAlone.reads) (λ context x. context) c.args.n tt c.args.c.now c.bytes-bytes.result.now
    c.loop.counter tt c.loop.c c.loop.places.items c.in_err-pass.field-0.0 c.loop-test.true (placed_bad g.K.ReadAlone.reads c.in_err-pass.field-0.0 c.loop.c.bytes c.loop.c.place c.in_err-pass.ensures.exact) c.loop.invariant.0)

pub loop-preserved : goal.loop-preserved
loop-preserved g c =
    let read = placed_got g.K.ReadAlone.reads (g.K.Record.standing c.loop.c.bytes c.loop.c.place) c.loop.c c.pass.new.c c.in_ok-pass.ensures.exact in
    rw c.in_ok-push.ensures.items (
      (GoingAt-next {S = Unit {0}} (placed_in g.K.Record.standing) g.K.Record.has (λ left context. placed g.K.ReadAlone.reads) (λ context x. context) c.args.n tt c.args.c.now c.bytes-bytes.result.now
          c.loop.counter tt c.loop.c c.loop.places.items (placed_in g.K.Record.standing c.loop.c.bytes c.loop.c.place) c.pass.new.c c.place-place.result c.place-place.ensures c.loop-test.true read (c.in_ok-pass.ensures.stands, refl) c.loop.invariant.0),
      omega (arith, length-append c.loop.places.items (c.place-place.result ∷ []), c.loop.invariant.1),
    )

pub returns : goal.returns
unfolding records_at
returns g c = rw c.none.ensures (GoingAt-end {S = Unit {0}} (placed_in g.K.Record.standing) g.K.Record.has (λ left context. placed g.K.ReadAlone.reads) (λ context x. context) c.args.n tt c.args.c.now c.bytes-bytes.result.now
    c.loop.counter tt c.loop.c c.loop.places.items c.loop-test.false c.loop.invariant.0)
