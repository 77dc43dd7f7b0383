use Rattle.std.proofs.Common.{◌≡◌, ℕ, List, ap, ◌∙◌}
use Rattle.std.specs.Prelude.{slice_index}
use Rattle.walk_enum.specs.Inner.Turns.{row_of}
use Rattle.walk_enum.proofs.Turning.{descends_more}
use Rattle.walk_enum.proofs.table.Table.descend.Goals as goal

pub loop-place-preserved : goal.loop-place-preserved
loop-place-preserved c =
    let rows = c.args.self.now.rows.items in
    let row : c.nodes_at.result.now ≡ row_of rows (slice_index c.loop-place.walk c.loop-place.place) =
    c.nodes_at.ensures ∙ ap (λ (rs : List (List ℕ)). row_of rs c.node.result) c.deref.ensures.value ∙ ap (row_of rows) c.node.ensures in
    rw (c.set.ensures, row) (descends_more _ _ _ _ _ _ _ c.loop-place.invariant c.loop-place-test.true)
