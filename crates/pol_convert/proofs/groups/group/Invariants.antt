use Rattle.std.proofs.Common.{map}
use Rattle.pol_convert.specs.Grouped.{group_of, part_of_entry, same_part}
use Rattle.pol_convert.specs.Inner.Parts.{shown}
use Rattle.pol_convert.proofs.MadeOfRows.{AreMade}
use Rattle.pol_convert.proofs.groups.group.Given as goal

abbrev pub invariant-loop-place : goal.invariant-loop-place
invariant-loop-place l = AreMade same_part part_of_entry group_of l.list (map shown l.parts) l.place l.groups.items
