use Rattle.std.proofs.Common.{◌≡◌, take}
use Rattle.std.specs.Prelude.{◌==◌}
use Rattle.value_groups.proofs.Adding.{AddedFront}
use Rattle.rules_by_end.proofs.grouped_search.add_far_ends.Given as goal

abbrev pub invariant-loop-row : goal.invariant-loop-row
invariant-loop-row l = (l.ends.count ≡ l.initial.ends.count) × AddedFront (λ value row. row.far == value) (take l.row-index l.rows) l.initial.ends.values l.ends.values
