use Rattle.std.proofs.Common.{◌≡◌, [], take}
use Rattle.std.specs.Prelude.{◌==◌}
use Rattle.std.specs.List.{list_any}
use Rattle.rules_by_end.specs.RulesByEnd.{rows_under}
use Rattle.value_groups.proofs.Adding.{AddedFront}
use Rattle.rules_by_end.proofs.grouped_search.far_ends.Given as goal

abbrev pub invariant-loop-end : goal.invariant-loop-end
invariant-loop-end l = (l.ends.count ≡ l.count) × AddedFront (λ value end. list_any (λ row. row.far == value) (rows_under l.rows end)) (take l.end-index l.from) [] l.ends.values
