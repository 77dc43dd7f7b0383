use Rattle.std.proofs.Common.{◌≡◌, ◌++◌, take}
use Rattle.rules_between.specs.Inner.RuleTables.{places_to, rules_at}
use Rattle.rules_between.proofs.table_search.push_rules.Given as goal

abbrev pub invariant-loop-place : goal.invariant-loop-place
invariant-loop-place l = l.found.items ≡ l.initial.found.items ++ rules_at l.rules (places_to l.others l.to.values (take l.place-index l.places))
