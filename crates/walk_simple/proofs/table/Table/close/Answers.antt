use Rattle.std.proofs.Common.{◌≡◌, ◌-◌, true, false, List, ℕ, refl, sym, ap, subst, ◌∙◌, length}
use Rattle.std.specs.Prelude.{slice_index}
use Rattle.std.specs.List.Sorted.{IsStrictlyIncreasing}
use Rattle.walk_enum.specs.Inner.Turns.{row_of}
use Rattle.walk_simple.proofs.Going.{goes_end, last_is, step_found, step_has}
use Rattle.walk_simple.proofs.Ending.{close_none, close_over}
use Rattle.walk_simple.proofs.table.Table.close.Goals.{then-not-has_from-via-then-not-has_from, then-not-has_from-via-else-not-has_from+then-has}
use Rattle.walk_simple.proofs.table.Table.close.Goals as goal

pub returns-then-not-has_from : goal.returns-then-not-has_from
returns-then-not-has_from c =
    let rows = c.args.self.now.rows.items in
    let next = row_of rows in
    let walk = c.args.walk.now in
    let to = c.args.self.now.to in
    let row = c.nodes_at.result.now in
    let own : row ≡ next c.last.result = c.nodes_at.ensures ∙ ap (λ (rs : List (List ℕ)). row_of rs c.last.result) c.deref.ensures.value in
    let is : row ≡ next (slice_index walk.nodes (length walk.nodes - 1)) = own ∙ ap next c.last.ensures in
    let up : IsStrictlyIncreasing row = subst IsStrictlyIncreasing (sym own) (c.requires.table.rising c.last.result) in
    elim c.then-not-has_from.branch [
      | then-not-has_from-via-then-not-has_from w ↦ close_none next to c.args.first walk row is w.if-not-has_from.ensures.1
      | then-not-has_from-via-else-not-has_from+then-has w ↦
          close_over next to c.args.first walk walk false row is up (w.if-not-has_from.ensures.0 refl) (step_has next to 0 to walk (sym w.if-has.ensures))
    ]

pub returns : goal.returns
returns c =
    let rows = c.args.self.now.rows.items in
    let next = row_of rows in
    let walk = c.args.walk.now in
    let to = c.args.self.now.to in
    let new = c.push.new.self in
    let row = c.nodes_at.result.now in
    let own : row ≡ next c.last.result = c.nodes_at.ensures ∙ ap (λ (rs : List (List ℕ)). row_of rs c.last.result) c.deref.ensures.value in
    let is : row ≡ next (slice_index walk.nodes (length walk.nodes - 1)) = own ∙ ap next c.last.ensures in
    let up : IsStrictlyIncreasing row = subst IsStrictlyIncreasing (sym own) (c.requires.table.rising c.last.result) in
    close_over next to c.args.first walk new true row is up (c.if-not-has_from.ensures.0 refl)
    (step_found next to 0 to walk new new (sym c.if-has.ensures) c.push.ensures.nodes c.push.ensures.room (goes_end next to 0 new (last_is new.nodes walk.nodes to c.push.ensures.nodes)))
