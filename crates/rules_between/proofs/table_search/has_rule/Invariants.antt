use Rattle.std.proofs.Common.{◌≡◌, false, take}
use Rattle.value_groups.specs.Inner.Grouping.{group_of}
use Rattle.rules_between.specs.Inner.RuleTables.{any_found}
use Rattle.rules_between.proofs.table_search.has_rule.Given as goal

abbrev pub invariant-loop-end : goal.invariant-loop-end
invariant-loop-end l = any_found l.others (group_of l.groups) (take l.end-index l.from) l.to.values ≡ false
