use Rattle.std.proofs.Common.{◌≡◌, take}
use Rattle.info_classes.specs.RecordOrder.{records_at}
use Rattle.info_classes.specs.DefaultLines.{entries_in}
use Rattle.info_classes.proofs.default_entry.default_entries.Given as goal

abbrev pub invariant-loop-number : goal.invariant-loop-number
invariant-loop-number l = l.entries.items ≡ entries_in (records_at l.symbols.classes.records (take l.number-index l.numbers))
