use Rattle.std.proofs.Common.{map, take}
use Rattle.pol_convert.specs.Grouped.{part_of_entry, same_part}
use Rattle.pol_convert.specs.Inner.GroupRows.{AreInRows}
use Rattle.pol_convert.specs.Inner.Parts.{shown}
use Rattle.pol_convert.proofs.rows.rows_by_part.Given as goal

abbrev pub invariant-loop-entry : goal.invariant-loop-entry
invariant-loop-entry l = AreInRows same_part part_of_entry (map shown l.parts.keys) l.rows (take l.entry-index l.list)
