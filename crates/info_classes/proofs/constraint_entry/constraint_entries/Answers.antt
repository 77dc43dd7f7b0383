use Rattle.std.proofs.Common.{◌∙◌}
use Rattle.info_classes.specs.ConstraintLines.{entries_of}
use Rattle.info_classes.proofs.ListedRecords.{pieces_more}
use Rattle.info_classes.proofs.constraint_entry.constraint_entries.Goals as goal

pub loop-number-preserved : goal.loop-number-preserved
loop-number-preserved c =
    c.in_ok-push_entries.ensures ∙ rw c.loop-number.invariant (pieces_more (entries_of c.args.kind) c.args.symbols.now.classes.records c.args.numbers.now c.loop-number.number-index 0 c.loop-number-test.true)
