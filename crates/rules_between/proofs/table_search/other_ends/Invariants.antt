use Rattle.std.proofs.Common.{◌≡◌, [], take}
use Rattle.std.specs.Prelude.{◌==◌, slice_index}
use Rattle.std.specs.List.{list_any}
use Rattle.value_groups.specs.Inner.Grouping.{group_of}
use Rattle.value_groups.proofs.Adding.{AddedFront}
use Rattle.rules_between.proofs.table_search.other_ends.Given as goal

abbrev pub invariant-loop-end : goal.invariant-loop-end
invariant-loop-end l = (l.ends.count ≡ l.count) × AddedFront (λ value end. list_any (λ place. slice_index l.others place == value) (group_of l.groups end)) (take l.end-index l.from) [] l.ends.values
