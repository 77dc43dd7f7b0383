use Rattle.std.proofs.Common.{◌≡◌, false, take}
use Rattle.std.specs.Prelude.{slice_index}
use Rattle.std.specs.List.{list_any}
use Rattle.value_groups.specs.Among.{is_among}
use Rattle.rules_between.proofs.table_search.has_other.Given as goal

abbrev pub invariant-loop-place : goal.invariant-loop-place
invariant-loop-place l = list_any (λ place. is_among l.to.values (slice_index l.others place)) (take l.place-index l.places) ≡ false
