use Rattle.std.proofs.Common.{◌≡◌, take}
use Rattle.value_groups.specs.Inner.Grouping.{group_of}
use Rattle.rules_between.specs.Inner.RuleTables.{rules_under}
use Rattle.rules_between.proofs.table_search.rules_with.Given as goal

abbrev pub invariant-loop-end : goal.invariant-loop-end
invariant-loop-end l = l.found.items ≡ rules_under l.rules (group_of l.groups) (take l.end-index l.from)
