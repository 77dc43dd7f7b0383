use Rattle.std.proofs.Common.{◌≡◌, take}
use Rattle.value_groups.specs.Inner.Grouping.{group_of}
use Rattle.rules_between.specs.Inner.RuleTables.{rules_found}
use Rattle.rules_between.proofs.table_search.found_rules.Given as goal

abbrev pub invariant-loop-end : goal.invariant-loop-end
invariant-loop-end l = l.found.items ≡ rules_found l.rules l.others (group_of l.groups) (take l.end-index l.from) l.to.values
