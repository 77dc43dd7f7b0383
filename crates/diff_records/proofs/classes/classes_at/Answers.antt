use Rattle.std.proofs.Common.{◌∙◌}
use Rattle.diff_records.proofs.ListedRecords.{record_more}
use Rattle.diff_records.proofs.classes.classes_at.Goals as goal

pub loop-number-preserved : goal.loop-number-preserved
loop-number-preserved c =
    c.in_ok-push.ensures.items ∙ rw c.loop-number.invariant (record_more c.args.symbols.now.classes.records c.args.numbers.now c.loop-number.number-index 0 c.view.result c.loop-number-test.true c.view.ensures)
