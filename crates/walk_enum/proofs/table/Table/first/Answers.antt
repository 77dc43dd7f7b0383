use Rattle.std.proofs.Common.{◌≡◌, ◌+◌, ◌-◌, ℕ, List, ap, sym, ◌∙◌, arith, Some}
use Rattle.std.specs.Prelude.{slice_index}
use Rattle.std.proofs.lemmas.List.{get_or-replicate}
use Rattle.walk_enum.specs.Inner.Turns.{row_of, first_along}
use Rattle.walk_enum.proofs.Turning.{first_walk_is}
use Rattle.walk_enum.proofs.table.Table.first.Goals as goal

pub returns : goal.returns
returns c =
    let t = c.args.self.now in
    let next = row_of t.rows.items in
    let none : t.step_count - 0 ≡ t.step_count = omega arith in
    let here : slice_index c.in_ok-walk.walk 0 ≡ t.from = ap (λ (w : List ℕ). slice_index w 0) c.in_ok-walk.ensures ∙ get_or-replicate (t.step_count + 1) 0 t.from 0 (omega arith) in
    first_walk_is next t.from t.to t.step_count c.requires.leads
    ∙ ap Some (ap (λ (x : ℕ). first_along next x t.step_count) (sym here) ∙ ap (first_along next (slice_index c.in_ok-walk.walk 0)) (sym none) ∙ sym c.descend.ensures)
