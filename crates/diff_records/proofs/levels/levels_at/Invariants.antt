use Rattle.std.proofs.Common.{◌≡◌, take}
use Rattle.info_classes.specs.RecordOrder.{records_at}
use Rattle.diff_records.proofs.levels.levels_at.Given as goal

abbrev pub invariant-loop-number : goal.invariant-loop-number
invariant-loop-number l = l.levels.items ≡ records_at l.symbols.levels.records (take l.number-index l.numbers)
