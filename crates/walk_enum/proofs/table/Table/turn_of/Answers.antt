use Rattle.std.proofs.Common.{◌≡◌, ◌+◌, ◌-◌, ℕ, suc, List, drop, length, ap, sym, subst, ◌∙◌, arith, add-one}
use Rattle.std.specs.Prelude.{slice_index}
use Rattle.std.specs.List.{Contains}
use Rattle.walk_enum.specs.Walks.{walks_along}
use Rattle.walk_enum.specs.Inner.Turns.{row_of, IsLast}
use Rattle.walk_enum.proofs.Along.{starts, walk_length}
use Rattle.walk_enum.proofs.Turning.{ends_at, ends_before, step_at}
use Rattle.walk_enum.proofs.table.Table.turn_of.Goals as goal

pub loop-back-init : goal.loop-back-init
loop-back-init c =
    let k = c.args.self.now.step_count in
    let w = c.args.walk.now in
    let next = row_of c.args.self.now.rows.items in
    let to = c.args.self.now.to in
    let e : k - 0 ≡ k = omega arith in
    subst (λ (n : ℕ). IsLast (walks_along next (slice_index w n) to 0) (drop n w)) (sym e) (ends_at next c.args.self.now.from to k w c.requires.there)

pub node-requires : goal.node-requires
node-requires c =
    let long : length c.args.walk.now ≡ c.args.self.now.step_count + 1 = walk_length (row_of c.args.self.now.rows.items) c.args.self.now.from c.args.self.now.to c.args.self.now.step_count c.args.walk.now c.requires.there in
    omega (arith, long, c.loop-back-test.true)

pub node-requires-in-loop-back : goal.node-requires-in-loop-back
node-requires-in-loop-back c =
    let long : length c.args.walk.now ≡ c.args.self.now.step_count + 1 = walk_length (row_of c.args.self.now.rows.items) c.args.self.now.from c.args.self.now.to c.args.self.now.step_count c.args.walk.now c.requires.there in
    omega (arith, long, c.loop-back-test.true)

pub node_after-requires-clause-there : goal.node_after-requires-clause-there
node_after-requires-clause-there c =
    let k = c.args.self.now.step_count in
    let w = c.args.walk.now in
    let rows = c.args.self.now.rows.items in
    let i = k - c.loop-back.back - 1 in
    let e : suc i ≡ k - c.loop-back.back = omega (arith, c.loop-back-test.true) in
    let row : c.nodes_at-row.result.now ≡ row_of rows (slice_index w i) =
    c.nodes_at-row.ensures ∙ ap (λ (rs : List (List ℕ)). row_of rs c.node.result) c.deref.ensures.value ∙ ap (row_of rows) c.node.ensures in
    subst (λ (l : List ℕ). Contains l c.node-in-loop-back.result) (sym row) (subst (Contains (row_of rows (slice_index w i))) (ap (slice_index w) e ∙ sym c.node-in-loop-back.ensures)
    (step_at (row_of rows) c.args.self.now.from c.args.self.now.to k i w c.requires.there (omega (arith, c.loop-back-test.true))))

pub loop-back-preserved : goal.loop-back-preserved
loop-back-preserved c =
    let k = c.args.self.now.step_count in
    let w = c.args.walk.now in
    let rows = c.args.self.now.rows.items in
    let next = row_of rows in
    let to = c.args.self.now.to in
    let back = c.loop-back.back in
    let i = k - (back + 1) in
    let e : k - back ≡ suc i = omega (arith, c.loop-back-test.true) in
    let f : k - back - 1 ≡ i = omega arith in
    let row : c.nodes_at-row.result.now ≡ row_of rows (slice_index w i) =
    c.nodes_at-row.ensures ∙ ap (λ (rs : List (List ℕ)). row_of rs c.node.result) c.deref.ensures.value ∙ ap (row_of rows) (c.node.ensures ∙ ap (slice_index w) f) in
    let node : c.node-in-loop-back.result ≡ slice_index w (suc i) = c.node-in-loop-back.ensures ∙ ap (slice_index w) e in
    let last : IsLast (row_of rows (slice_index w i)) (slice_index w (suc i)) =
    subst (λ (l : List ℕ). IsLast l (slice_index w (suc i))) row (subst (IsLast c.nodes_at-row.result.now) node c.in-None.ensures.none) in
    let tail : IsLast (walks_along next (slice_index w (suc i)) to back) (drop (suc i) w) =
    subst (λ (n : ℕ). IsLast (walks_along next (slice_index w n) to back) (drop n w)) e c.loop-back.invariant in
    subst (λ (n : ℕ). IsLast (walks_along next (slice_index w i) to n) (drop i w)) (sym (add-one back))
    (ends_before next c.args.self.now.from to i back k w (omega (arith, c.loop-back-test.true)) c.requires.there last tail)

pub returns-clause-none : goal.returns-clause-none
returns-clause-none c =
    let k = c.args.self.now.step_count in
    let w = c.args.walk.now in
    let next = row_of c.args.self.now.rows.items in
    let to = c.args.self.now.to in
    let back = c.loop-back.back in
    let all : back ≡ k = omega (arith, c.loop-back-test.false, c.loop-back.auto.back-end) in
    let none : k - back ≡ 0 = omega (arith, all) in
    let s = starts next c.args.self.now.from to k w c.requires.there in
    let head : slice_index w 0 ≡ c.args.self.now.from = ap (λ (u : List ℕ). slice_index u 0) (sym s.1) in
    subst (λ (x : ℕ). IsLast (walks_along next x to k) w) head (subst (λ (n : ℕ). IsLast (walks_along next (slice_index w 0) to n) w) all
    (subst (λ (n : ℕ). IsLast (walks_along next (slice_index w n) to back) (drop n w)) none c.loop-back.invariant))
