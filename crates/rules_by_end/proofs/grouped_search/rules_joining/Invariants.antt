use Rattle.std.proofs.Common.{take}
use Rattle.std.specs.List.Sorted.{IsPermutation}
use Rattle.rules_by_end.specs.Inner.GroupedRules.{rules_joining}
use Rattle.rules_by_end.proofs.grouped_search.rules_joining.Given as goal

abbrev pub invariant-loop-end : goal.invariant-loop-end
invariant-loop-end l = IsPermutation l.found.items (rules_joining l.rows (take l.end-index l.from) l.to.values)
