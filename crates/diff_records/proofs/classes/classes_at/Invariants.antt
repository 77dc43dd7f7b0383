use Rattle.std.proofs.Common.{◌≡◌, take}
use Rattle.info_classes.specs.RecordOrder.{records_at}
use Rattle.diff_records.proofs.classes.classes_at.Given as goal

abbrev pub invariant-loop-number : goal.invariant-loop-number
invariant-loop-number l = l.classes.items ≡ records_at l.symbols.classes.records (take l.number-index l.numbers)
