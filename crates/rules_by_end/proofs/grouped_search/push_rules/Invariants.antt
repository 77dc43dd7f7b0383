use Rattle.std.proofs.Common.{◌≡◌, ◌++◌, map, take}
use Rattle.rules_by_end.proofs.grouped_search.push_rules.Given as goal

abbrev pub invariant-loop-row : goal.invariant-loop-row
invariant-loop-row l = l.found.items ≡ l.initial.found.items ++ map (λ row. row.rule) (take l.row-index l.rows)
