use Rattle.std.proofs.Common.{◌≡◌, ◌++◌, length, drop}
use Rattle.pol_conditionals.specs.Inner.PlaceGroups.{places_of}
use Rattle.pol_conditionals.proofs.place_groups.push_places.Given as goal

abbrev pub invariant-loop-rule : goal.invariant-loop-rule
invariant-loop-rule l = record {
  whole : l.places.items ++ places_of l.rule-iterator ≡ l.initial.places.items ++ places_of l.fn.rules;
  kept : l.places.items ≡ l.initial.places.items ++ drop (length l.initial.places.items) l.places.items;
}
