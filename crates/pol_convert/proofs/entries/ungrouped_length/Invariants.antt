use Rattle.std.proofs.Common.{◌≡◌, ◌-◌, ◌^◌, take}
use Rattle.std.specs.Prelude.{min}
use Rattle.pol_convert.specs.Ungrouped.{entries_length, ungrouped}
use Rattle.pol_convert.proofs.entries.ungrouped_length.Given as goal

abbrev pub invariant-loop-group : goal.invariant-loop-group
invariant-loop-group l = l.bytes ≡ min (entries_length (ungrouped l.declared (take l.group-index l.list))) (2 ^ 64 - 1)
