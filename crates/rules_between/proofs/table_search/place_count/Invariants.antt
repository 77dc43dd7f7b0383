use Rattle.std.proofs.Common.{◌≡◌, ◌-◌, ◌^◌, length, take}
use Rattle.std.specs.Prelude.{min}
use Rattle.std.specs.List.{flat_map}
use Rattle.value_groups.specs.Inner.Grouping.{group_of}
use Rattle.rules_between.proofs.table_search.place_count.Given as goal

abbrev pub invariant-loop-end : goal.invariant-loop-end
invariant-loop-end l = l.count ≡ min (length (flat_map (group_of l.groups) (take l.end-index l.ends))) (2 ^ 64 - 1)
