use Rattle.std.proofs.Common.{refl}
use Rattle.std.proofs.lemmas.Result.{err_from_is_err_and}
use Rattle.pol_cursor.proofs.NestedLists.{length_nested_in, PassingNested-start, PassingNested-next, PassingNested-bad, PassingNested-end}
use Rattle.pol_cursor.proofs.nested_records.read_nested.Goals as goal

pub loop-init : goal.loop-init
loop-init g c = PassingNested-start (g.K.NestedRecord.reads c.args.setting.now) g.K.Record.standing g.K.Record.has g.K.NestedRecord.ends c.args.n c.args.c.now

pub returns-in_err-pass-clause-exact : goal.returns-in_err-pass-clause-exact
returns-in_err-pass-clause-exact g c =
    let p = err_from_is_err_and c.from_residual.result c.from_residual.ensures.1 in
    rw (p.1, p.2) (PassingNested-bad (g.K.NestedRecord.reads c.args.setting.now) g.K.Record.standing g.K.Record.has g.K.NestedRecord.ends c.args.n c.args.c.now
    c.loop.counter c.loop.c c.in_err-pass.field-0.0 c.loop-test.true c.in_err-pass.ensures.exact c.loop.invariant)

pub loop-preserved : goal.loop-preserved
loop-preserved g c = PassingNested-next (g.K.NestedRecord.reads c.args.setting.now) g.K.Record.standing g.K.Record.has g.K.NestedRecord.ends c.args.n c.args.c.now
    c.loop.counter c.loop.c c.pass.new.c c.loop-test.true c.in_ok-pass.ensures.exact c.in_ok-pass.ensures.stands c.in_ok-pass.ensures.next c.loop.invariant

pub returns : goal.returns
returns g c =
    let p = PassingNested-end (g.K.NestedRecord.reads c.args.setting.now) g.K.Record.standing g.K.Record.has g.K.NestedRecord.ends c.args.n c.args.c.now c.loop.counter c.loop.c c.loop-test.false c.loop.invariant in
    rw (c.bytes-bytes.ensures.all, c.place-place.ensures) (record { exact = p.read; stand = p.stand; next = p.end; same = refl; count = length_nested_in g.K.Record.standing g.K.NestedRecord.ends c.args.c.now.bytes c.args.c.now.place c.args.n })

pub invariant_of-result : goal.invariant_of-result
invariant_of-result g c =
    let p = PassingNested-end (g.K.NestedRecord.reads c.args.setting.now) g.K.Record.standing g.K.Record.has g.K.NestedRecord.ends c.args.n c.args.c.now c.loop.counter c.loop.c c.loop-test.false c.loop.invariant in
    rw (c.bytes-bytes.ensures.all, c.place-place.ensures) p.stand
