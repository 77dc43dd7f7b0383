use Rattle.std.proofs.Common.{◌≡◌, take}
use Rattle.std.specs.List.{filter}
use Rattle.keyed_lists.specs.Inner.PlacedEntries.{differ_at}
use Rattle.diff_entries.specs.Entries.{same_entry}
use Rattle.diff_entries.proofs.differences.differing.Given as goal

abbrev pub invariant-loop-at : goal.invariant-loop-at
invariant-loop-at g l = l.places.items ≡ filter (differ_at same_entry (g.E.Entries.entries l.first) (g.E.Entries.entries l.second)) (take l.at-index l.all)
