use Rattle.std.proofs.Common.{◌∙◌}
use Rattle.info_classes.specs.BoundsLines.{is_bounded}
use Rattle.info_classes.proofs.ListedRecords.{passing_more}
use Rattle.diff_records.proofs.bounds.bounded_among.Goals as goal

pub loop-number-preserved : goal.loop-number-preserved
loop-number-preserved c =
    c.in_ok-push_bounded.ensures ∙ rw c.loop-number.invariant (passing_more is_bounded c.args.symbols.now.types.records c.args.numbers.now c.loop-number.number-index 0 c.view.result c.loop-number-test.true c.view.ensures)
