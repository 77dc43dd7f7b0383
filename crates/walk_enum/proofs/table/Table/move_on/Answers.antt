use Rattle.std.proofs.Common.{◌≡◌, ◌+◌, ◌-◌, ◌++◌, ℕ, List, length, take, ap, sym, subst, ◌∙◌, arith, true, get_or-set_same}
use Rattle.std.specs.Prelude.{slice_index}
use Rattle.std.proofs.lemmas.List.{take-set-le}
use Rattle.std.proofs.Math.ListN.{length-set}
use Rattle.walk_enum.specs.Walks.{walks_along}
use Rattle.walk_enum.specs.Moving.{Moves}
use Rattle.walk_enum.specs.Inner.Turns.{row_of, first_along, Leads}
use Rattle.walk_enum.proofs.Ascending.{ascends_from_increasing}
use Rattle.walk_enum.proofs.Along.{walk_length, walks_ascend}
use Rattle.walk_enum.proofs.Turning.{turn_leads, turn_moves, moves_next, moves_last}
use Rattle.walk_enum.proofs.table.Table.move_on.Goals as goal

pub set-requires : goal.set-requires
set-requires c =
    let t = c.args.self.now in
    let long : length c.args.walk.now ≡ t.step_count + 1 = walk_length (row_of t.rows.items) t.from t.to t.step_count c.args.walk.now c.requires.there in
    omega (arith, long, c.in-Some.ensures.some.within)

pub descend-requires-clause-length : goal.descend-requires-clause-length
descend-requires-clause-length c =
    let t = c.args.self.now in
    rw c.set.ensures (length-set c.args.walk.now c.in-Some.turn.place c.in-Some.turn.node ∙ walk_length (row_of t.rows.items) t.from t.to t.step_count c.args.walk.now c.requires.there)

pub descend-requires-clause-leads : goal.descend-requires-clause-leads
descend-requires-clause-leads c =
    let t = c.args.self.now in
    let w = c.args.walk.now in
    let p = c.in-Some.turn.place in
    let node = c.in-Some.turn.node in
    let long : length w ≡ t.step_count + 1 = walk_length (row_of t.rows.items) t.from t.to t.step_count w c.requires.there in
    let here : slice_index c.set.new.self p ≡ node = ap (λ (u : List ℕ). slice_index u p) c.set.ensures ∙ get_or-set_same w p node 0 (omega (arith, long, c.in-Some.ensures.some.within)) in
    subst (λ (x : ℕ). Leads (row_of t.rows.items) t.to x (t.step_count - p)) (sym here) (turn_leads (row_of t.rows.items) t.from t.to t.step_count p node w c.requires.there c.requires.layers.leads c.in-Some.ensures.some)

pub returns-in-Some : goal.returns-in-Some
returns-in-Some c =
    let t = c.args.self.now in
    let next = row_of t.rows.items in
    let w = c.args.walk.now in
    let p = c.in-Some.turn.place in
    let node = c.in-Some.turn.node in
    let ws = walks_along next t.from t.to t.step_count in
    let long : length w ≡ t.step_count + 1 = walk_length next t.from t.to t.step_count w c.requires.there in
    let here : slice_index c.set.new.self p ≡ node = ap (λ (u : List ℕ). slice_index u p) c.set.ensures ∙ get_or-set_same w p node 0 (omega (arith, long, c.in-Some.ensures.some.within)) in
    let front : take p c.set.new.self ≡ take p w = ap (take p) c.set.ensures ∙ take-set-le p w p node (omega arith) in
    let new : c.descend.new.walk ≡ take p w ++ first_along next node (t.step_count - p) =
    c.descend.ensures ∙ ap (λ (u : List ℕ). u ++ first_along next (slice_index c.set.new.self p) (t.step_count - p)) front ∙ ap (λ (x : ℕ). take p w ++ first_along next x (t.step_count - p)) here in
    subst (λ (v : List ℕ). Moves ws w v true) (sym new)
    (moves_next ws w (take p w ++ first_along next node (t.step_count - p)) (walks_ascend next (λ a. ascends_from_increasing (next a) (c.requires.layers.rising a)) t.from t.to t.step_count)
    (turn_moves next t.from t.to t.step_count p node w c.requires.there c.requires.layers.leads c.in-Some.ensures.some))

pub returns-in-None : goal.returns-in-None
returns-in-None c =
    let t = c.args.self.now in
    let next = row_of t.rows.items in
    moves_last (walks_along next t.from t.to t.step_count) c.args.walk.now (walks_ascend next (λ a. ascends_from_increasing (next a) (c.requires.layers.rising a)) t.from t.to t.step_count) c.in-None.ensures.none
