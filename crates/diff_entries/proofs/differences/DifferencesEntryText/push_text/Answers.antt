use Rattle.std.proofs.Common.{◌++◌, ap, ◌∙◌}
use Rattle.std.proofs.lemmas.Result.{on_ok_weaker}
use Rattle.keyed_lists.specs.Inner.PlacedEntries.{both_at}
use Rattle.diff_entries.proofs.PlacedKeys.{line_at_places}
use Rattle.diff_entries.proofs.differences.DifferencesEntryText.push_text.Goals as goal

pub returns : goal.returns
returns g c =
    let line = line_at_places (both_at (g.E.Entries.entries c.self.inside.first) (g.E.Entries.entries c.self.inside.second)) c.args.self.now c.self.inside.places.items c.args.number c.index.result.now
    c.self.view_is c.index.ensures c.requires in
    on_ok_weaker c.push_line.result (λ e. e ∙ ap (λ text. c.args.buffer.now.items ++ text) line) c.push_line.ensures
