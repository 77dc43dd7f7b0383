use Rattle.std.proofs.Common.{◌≡◌, ◌++◌, take}
use Rattle.rules_by_end.specs.Inner.GroupedRules.{rules_to}
use Rattle.rules_by_end.proofs.grouped_search.push_rules_to.Given as goal

abbrev pub invariant-loop-row : goal.invariant-loop-row
invariant-loop-row l = l.found.items ≡ l.initial.found.items ++ rules_to l.to.values (take l.row-index l.rows)
