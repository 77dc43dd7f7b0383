use Rattle.std.proofs.Common.{◌≡◌, take}
use Rattle.info_classes.specs.RecordOrder.{records_at}
use Rattle.info_classes.specs.ConstraintLines.{entries_in}
use Rattle.info_classes.proofs.constraint_entry.constraint_entries.Given as goal

abbrev pub invariant-loop-number : goal.invariant-loop-number
invariant-loop-number l = l.entries.items ≡ entries_in l.kind (records_at l.symbols.classes.records (take l.number-index l.numbers))
