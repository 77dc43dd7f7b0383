use Rattle.std.proofs.Common.{◌≡◌, take}
use Rattle.std.specs.Prelude.{◌==◌, slice_index}
use Rattle.value_groups.proofs.Adding.{AddedFront}
use Rattle.rules_between.proofs.table_search.add_others.Given as goal

abbrev pub invariant-loop-place : goal.invariant-loop-place
invariant-loop-place l = (l.ends.count ≡ l.initial.ends.count) × AddedFront (λ value place. slice_index l.others place == value) (take l.place-index l.places) l.initial.ends.values l.ends.values
