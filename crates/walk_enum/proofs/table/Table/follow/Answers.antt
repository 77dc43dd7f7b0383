use Rattle.std.proofs.Common.{◌≡◌, ◌<◌, ◌+◌, ℕ, List, sym, ap, subst, ◌∙◌}
use Rattle.std.specs.Prelude.{slice_index}
use Rattle.walk_enum.specs.Walks.{walks_along}
use Rattle.walk_enum.specs.Inner.Counting.{IsWay, total}
use Rattle.walk_enum.specs.Inner.Turns.{row_of}
use Rattle.walk_enum.proofs.NumberedWalks.{Follows, follows_more, follows_way}
use Rattle.walk_enum.proofs.table.Table.follow.Goals as goal

pub way_of-way-requires : goal.way_of-way-requires
way_of-way-requires c =
    let t = c.args.self.now in
    let next = row_of t.rows.items in
    let row : c.nodes_at.result.now ≡ next (slice_index c.loop-place.walk c.loop-place.place) =
    c.nodes_at.ensures ∙ ap (λ (rs : List (List ℕ)). row_of rs c.node.result) c.deref.ensures.value ∙ ap next c.node.ensures in
    subst (λ (l : List ℕ). c.loop-place.left < total (slice_index c.args.counts.now) l) (sym row)
    (follows_way next t.to t.step_count c.args.counts.now c.requires.counts (walks_along next t.from t.to t.step_count) c.args.before c.loop-place.place c.loop-place.left c.loop-place.walk c.loop-place.invariant c.loop-place-test.true)

pub loop-place-preserved : goal.loop-place-preserved
loop-place-preserved c =
    let t = c.args.self.now in
    let next = row_of t.rows.items in
    let all = walks_along next t.from t.to t.step_count in
    let row : c.nodes_at.result.now ≡ next (slice_index c.loop-place.walk c.loop-place.place) =
    c.nodes_at.ensures ∙ ap (λ (rs : List (List ℕ)). row_of rs c.node.result) c.deref.ensures.value ∙ ap next c.node.ensures in
    let way = c.way_of-way.result in
    subst (λ (w : List ℕ). Follows next t.to t.step_count all c.args.before w (c.loop-place.place + 1) way.before) (sym c.set.ensures)
    (follows_more next t.to t.step_count c.args.counts.now c.requires.counts all c.args.before c.loop-place.place c.loop-place.left c.loop-place.walk c.loop-place.invariant c.loop-place-test.true way.node way.before
    (subst (λ (l : List ℕ). IsWay (slice_index c.args.counts.now) l c.loop-place.left way.node way.before) row c.way_of-way.ensures))
