use Rattle.std.proofs.Common.{◌≡◌, ◌-◌, ◌^◌, length, take}
use Rattle.std.specs.Prelude.{min}
use Rattle.std.specs.List.{flat_map}
use Rattle.pol_convert.specs.Ungrouped.{datum_entries}
use Rattle.pol_convert.proofs.entries.entry_count.Given as goal

abbrev pub invariant-loop-datum : goal.invariant-loop-datum
invariant-loop-datum l = l.count ≡ min (length (flat_map (datum_entries l.declared l.group) (take l.datum-index l.group.datums))) (2 ^ 64 - 1)
