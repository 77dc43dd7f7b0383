use Rattle.std.proofs.Common.{◌≡◌, ◌-◌, ℕ, List, refl, arith, ap, sym, ◌∙◌, length}
use Rattle.std.specs.Prelude.{slice_index}
use Rattle.walk_enum.specs.Inner.Turns.{row_of}
use Rattle.walk_simple.proofs.Going.{goes_end, goes_over, tries_found, step_found}
use Rattle.walk_simple.proofs.table.Table.+descend.Goals as goal

pub descend-returns-then-last-self : goal.descend-returns-then-last-self
descend-returns-then-last-self t c = goes_end (row_of c.args.self.now.rows.items) c.args.self.now.to c.args.left c.args.walk.now (sym c.last.ensures ∙ c.if-last-self.true)

pub descend-returns : goal.descend-returns
descend-returns t c = goes_over (row_of c.args.self.now.rows.items) c.args.self.now.to c.args.left (c.args.left - 1) c.args.walk.now c.enter.new.walk c.enter.result (omega (arith, c.if-left-eq0.false)) (λ e. c.if-last-self.false (c.last.ensures ∙ e)) c.enter.ensures

pub enter-returns-then-step : goal.enter-returns-then-step
enter-returns-then-step t c =
    let rows = c.args.self.now.rows.items in
    let next = row_of rows in
    let row = c.nodes_at-row.result.now in
    let is : row ≡ next (slice_index c.args.walk.now.nodes (length c.args.walk.now.nodes - 1)) = c.nodes_at-row.ensures ∙ ap (λ (rs : List (List ℕ)). row_of rs c.last.result) c.deref.ensures.value ∙ ap next c.last.ensures in
    tries_found next c.args.self.now.to c.args.left c.args.first c.loop-place.place (slice_index row c.loop-place.place) c.args.walk.now c.loop-place.walk c.step.new.walk row c.loop-place.invariant is c.loop-place-test.true refl c.if-step.ensures

pub step-returns-then-descend : goal.step-returns-then-descend
step-returns-then-descend t c =
    step_found (row_of c.args.self.now.rows.items) c.args.self.now.to c.args.left c.args.node c.args.walk.now c.push.new.self c.descend.new.walk (sym c.if-has.ensures) c.push.ensures.nodes c.push.ensures.room c.if-descend.ensures
