use Rattle.std.proofs.Common.{◌≡◌, ◌++◌, map, take}
use Rattle.std.specs.List.{flat_map}
use Rattle.keyed_lists.specs.Inner.PlacedEntries.{both_at}
use Rattle.diff_entries.specs.Changes.{signed_both}
use Rattle.diff_entries.proofs.changes.push_signed_names.Given as goal

abbrev pub invariant-loop-at : goal.invariant-loop-at
invariant-loop-at l =
    l.buffer.items ≡ l.fn.buffer.items ++ flat_map (λ at. signed_both (both_at (map (λ name. name.now) l.first) (map (λ name. name.now) l.second) at)) (take l.at-index l.places)
