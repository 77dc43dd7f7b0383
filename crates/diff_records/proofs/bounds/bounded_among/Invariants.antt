use Rattle.std.proofs.Common.{◌≡◌, take}
use Rattle.std.specs.List.{filter}
use Rattle.info_classes.specs.RecordOrder.{records_at}
use Rattle.info_classes.specs.BoundsLines.{is_bounded}
use Rattle.diff_records.proofs.bounds.bounded_among.Given as goal

abbrev pub invariant-loop-number : goal.invariant-loop-number
invariant-loop-number l = l.types.items ≡ filter is_bounded (records_at l.symbols.types.records (take l.number-index l.numbers))
