use Rattle.std.proofs.Common.{◌≡◌, ◌++◌, map, ap, ◌∙◌}
use Rattle.std.specs.List.{flat_map}
use Rattle.std.proofs.lemmas.Result.{on_ok_weaker}
use Rattle.keyed_lists.specs.Inner.PlacedEntries.{both_at}
use Rattle.diff_entries.specs.Changes.{names_alone, signed_both}
use Rattle.diff_entries.proofs.SetChanges.{set_changed}
use Rattle.diff_entries.proofs.changes.push_names_alone.Goals as goal

pub returns : goal.returns
returns c =
    let same : flat_map (λ at. signed_both (both_at (map (λ name. name.now) c.names.result.now) (map (λ name. name.now) c.names-2.result.now) at)) c.deref.result.now ≡ names_alone c.args.first.now c.args.second.now =
    rw (c.names.ensures, c.names-2.ensures, c.deref.ensures.value, c.in_ok-names.ensures) (set_changed c.args.first.now c.args.second.now) in
    on_ok_weaker c.push_signed_names.result (λ e. e ∙ ap (λ text. c.args.buffer.now.items ++ text) same) c.push_signed_names.ensures
