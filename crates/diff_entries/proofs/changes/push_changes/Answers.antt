use Rattle.std.proofs.Common.{List, ℕ, ◌++◌, ◌∙◌, sym, ap, append_assoc}
use Rattle.std.specs.List.{flat_map, range_with_len}
use Rattle.pol_cursor.proofs.Ranges.{flat_range_more}
use Rattle.diff_entries.specs.Changes.{change_at}
use Rattle.diff_entries.proofs.changes.push_changes.Goals as goal

pub loop-i-preserved : goal.loop-i-preserved
loop-i-preserved c =
    let text = change_at c.args.first.now c.args.second.now in
    let out = c.args.buffer.now.items in
    let i = c.loop-i.i in
    c.in_ok-push_change_at.ensures ∙ ap (λ (t : List ℕ). t ++ text i) c.loop-i.invariant ∙ append_assoc out (flat_map text (range_with_len 0 i)) (text i) ∙ ap (λ (t : List ℕ). out ++ t) (sym (flat_range_more text i))
