use Rattle.std.proofs.Common.{◌∙◌, sym, arith}
use Rattle.pol_tree.specs.Inner.Fitting.{IsFitting}
use Rattle.pol_tree.proofs.Wrongs.{record_here, record_later, record_none, known_later, known_last}
use Rattle.pol_tree.proofs.fitting.wrong_record.Goals as goal

pub returns-in-Some-clause-shape : goal.returns-in-Some-clause-shape
returns-in-Some-clause-shape g c =
    sym (c.loop-record.invariant.0 ∙ record_here (g.T.Fitting.shape c.args.version) c.args.records.now c.loop-record.record-index _ _ c.in-Some.field c.loop-record-test.true c.record-item.is (sym c.wrong_part.ensures.shape ∙ c.in-Some.is))

pub loop-record-preserved : goal.loop-record-preserved
loop-record-preserved g c =
    let shape = g.T.Fitting.shape c.args.version in
    let P = IsFitting shape (g.T.Fitting.fits c.args.version) g.T.Written.spelling in (
      c.loop-record.invariant.0 ∙ record_later shape c.args.records.now c.loop-record.record-index _ _ c.loop-record-test.true c.record-item.is (sym c.wrong_part.ensures.shape ∙ c.in-None.is),
      λ later. c.loop-record.invariant.1 (known_later P c.args.records.now c.loop-record.record-index _ _ c.loop-record-test.true c.record-item.is c.wrong_part.ensures.fits later),
    )

pub returns-clause-shape : goal.returns-clause-shape
returns-clause-shape g c = sym (c.loop-record.invariant.0 ∙ record_none (g.T.Fitting.shape c.args.version) c.args.records.now c.loop-record.record-index (omega arith))

pub returns-clause-fits : goal.returns-clause-fits
returns-clause-fits g c none = c.loop-record.invariant.1 (known_last (IsFitting (g.T.Fitting.shape c.args.version) (g.T.Fitting.fits c.args.version) g.T.Written.spelling) c.args.records.now c.loop-record.record-index (omega arith))
