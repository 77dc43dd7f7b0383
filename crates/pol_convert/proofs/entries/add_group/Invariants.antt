use Rattle.std.proofs.Common.{◌≡◌, ◌++◌, take}
use Rattle.std.specs.List.{flat_map}
use Rattle.pol_convert.specs.Ungrouped.{datum_entries}
use Rattle.pol_convert.proofs.entries.add_group.Given as goal

abbrev pub invariant-loop-datum : goal.invariant-loop-datum
invariant-loop-datum l = l.entries.items ≡ l.initial.entries.items ++ flat_map (datum_entries l.declared l.group) (take l.datum-index l.group.datums)
