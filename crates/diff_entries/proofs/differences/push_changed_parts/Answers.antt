use Rattle.std.proofs.Common.{◌≡◌, ◌++◌, ap, ◌∙◌}
use Rattle.std.proofs.lemmas.Result.{on_ok_weaker}
use Rattle.diff_entries.specs.Changes.{changes_text}
use Rattle.diff_entries.specs.Entries.{entry_at}
use Rattle.diff_entries.proofs.differences.push_changed_parts.Goals as goal

pub returns : goal.returns
returns g c =
    let parts : c.deref.result.now ≡ (entry_at (g.E.Entries.entries c.args.first.now) c.args.number).parts = c.deref.ensures.value ∙ c.in_ok-parts.ensures in
    let others : c.deref-2.result.now ≡ (entry_at (g.E.Entries.entries c.args.second.now) c.args.other).parts = c.deref-2.ensures.value ∙ c.in_ok-others.ensures in
    on_ok_weaker c.push_changes.result
    (λ e. e ∙ ap (λ (ps : _). c.args.buffer.now.items ++ changes_text ps c.deref-2.result.now) parts ∙ ap (λ (ps : _). c.args.buffer.now.items ++ changes_text (entry_at (g.E.Entries.entries c.args.first.now) c.args.number).parts ps) others)
    c.push_changes.ensures
