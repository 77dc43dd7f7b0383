use Rattle.std.proofs.Common.{◌≡◌, ◌++◌, take}
use Rattle.rules_between.specs.Inner.RuleTables.{rules_at}
use Rattle.rules_between.proofs.table_search.push_all.Given as goal

abbrev pub invariant-loop-place : goal.invariant-loop-place
invariant-loop-place l = l.found.items ≡ l.initial.found.items ++ rules_at l.rules (take l.place-index l.places)
