use Rattle.std.proofs.Common.{◌≡◌, ◌++◌, take}
use Rattle.std.specs.List.{flat_map}
use Rattle.rules_by_end.specs.Inner.GroupedRules.{rules_of}
use Rattle.rules_by_end.proofs.grouped_search.push_rules_of_each.Given as goal

abbrev pub invariant-loop-end : goal.invariant-loop-end
invariant-loop-end l = l.found.items ≡ l.initial.found.items ++ flat_map (rules_of l.rows) (take l.end-index l.ends)
