use Rattle.std.proofs.Common.{◌≡◌}
use Rattle.std.specs.List.{filter}
use Rattle.keyed_lists.specs.Inner.PlacedEntries.{differ_at}
use Rattle.diff_entries.specs.Entries.{same_entry}
use Rattle.diff_entries.proofs.PlacedKeys.{kept_within, kept_differences}
use Rattle.diff_entries.proofs.differences.differing_places.Goals as goal

pub returns : goal.returns
returns g c =
    let first = g.E.Entries.entries c.args.first.now in
    let second = g.E.Entries.entries c.args.second.now in
    let kept : c.in_ok-places.places.items ≡ filter (differ_at same_entry first second) c.in_ok-all.all.items =
    rw (← c.deref.ensures.value) c.in_ok-places.ensures in
    record {
      within = kept_within first second c.in_ok-all.all.items c.in_ok-places.places.items c.in_ok-all.ensures kept;
      differences = kept_differences first second c.in_ok-all.all.items c.in_ok-places.places.items c.in_ok-all.ensures kept;
    }
