use Rattle.std.proofs.Common.{◌≡◌, ◌+◌, ◌<◌, ℕ, List, arith, ap, sym, subst, ◌∙◌, length, refl}
use Rattle.std.specs.Prelude.{slice_index}
use Rattle.std.specs.List.{Contains}
use Rattle.walk_enum.specs.Inner.Turns.{row_of}
use Rattle.walk_simple.specs.Inner.Tables.{IsBehind}
use Rattle.walk_simple.proofs.Going.{stands, from_end, from_behind, from_turn, long_take}
use Rattle.walk_simple.proofs.table.Table.+advance.Goals as goal

pub overflow_add-behind : goal.overflow_add-behind
overflow_add-behind t c = omega (arith, c.requires.within, c.len-count.ensures.nodes, c.len-count.ensures.few)

pub returns-then-behind-count : goal.returns-then-behind-count
returns-then-behind-count t c = from_end (row_of c.args.self.now.rows.items) c.args.self.now.to c.args.left c.args.place c.args.walk.now (omega (arith, c.if-behind-count.true, c.len-count.ensures.nodes)) c.requires.there

pub overflow_sub-left : goal.overflow_sub-left
overflow_sub-left t c =
    let next = row_of c.args.self.now.rows.items in
    let lt : c.args.place + 1 < length c.args.walk.now.nodes = omega (arith, c.requires.within, c.if-behind-count.false, c.len-count.ensures.nodes) in
    (stands next c.args.self.now.to c.args.left c.args.place c.args.walk.now.nodes lt c.requires.there).left

pub advance-requires : goal.advance-requires
advance-requires t c =
    let next = row_of c.args.self.now.rows.items in
    let lt : c.args.place + 1 < length c.args.walk.now.nodes = omega (arith, c.requires.within, c.if-behind-count.false, c.len-count.ensures.nodes) in
    let s = stands next c.args.self.now.to c.args.left c.args.place c.args.walk.now.nodes lt c.requires.there in
    (omega (arith, s.left, c.decreases), (c.requires.table, (lt, (omega (arith, s.left, c.requires.room), s.there))))

pub returns-then-advance : goal.returns-then-advance
returns-then-advance t c =
    let next = row_of c.args.self.now.rows.items in
    let lt : c.args.place + 1 < length c.args.walk.now.nodes = omega (arith, c.requires.within, c.if-behind-count.false, c.len-count.ensures.nodes) in
    let s = stands next c.args.self.now.to c.args.left c.args.place c.args.walk.now.nodes lt c.requires.there in
    from_behind next c.args.self.now.to c.args.left c.args.place c.args.walk.now c.advance.new.walk lt s c.if-advance.ensures

pub place_behind-first-requires-clause-there : goal.place_behind-first-requires-clause-there
place_behind-first-requires-clause-there t c =
    let rows = c.args.self.now.rows.items in
    let next = row_of rows in
    let lt : c.args.place + 1 < length c.args.walk.now.nodes = omega (arith, c.requires.within, c.if-behind-count.false, c.len-count.ensures.nodes) in
    let s = stands next c.args.self.now.to c.args.left c.args.place c.args.walk.now.nodes lt c.requires.there in
    let row : c.nodes_at.result.now ≡ next (slice_index c.args.walk.now.nodes c.args.place) = c.nodes_at.ensures ∙ ap (λ (rs : List (List ℕ)). row_of rs c.node-node.result) c.deref.ensures.value ∙ ap next c.node-node.ensures in
    subst (λ (l : List ℕ). Contains l c.node-other.result) (sym row) (subst (Contains (next (slice_index c.args.walk.now.nodes c.args.place))) (sym c.node-other.ensures) s.has)

pub cut-requires : goal.cut-requires
cut-requires t c =
    let lt : c.args.place + 1 < length c.args.walk.now.nodes = omega (arith, c.requires.within, c.if-behind-count.false, c.len-count.ensures.nodes) in
    omega (arith, ap length (c.if-advance.ensures.cut refl), long_take (c.args.place + 1 + 1) c.args.walk.now.nodes (omega (arith, lt)))

pub enter-requires-clause-some : goal.enter-requires-clause-some
enter-requires-clause-some t c =
    let next = row_of c.args.self.now.rows.items in
    let lt : c.args.place + 1 < length c.args.walk.now.nodes = omega (arith, c.requires.within, c.if-behind-count.false, c.len-count.ensures.nodes) in
    let s = stands next c.args.self.now.to c.args.left c.args.place c.args.walk.now.nodes lt c.requires.there in
    omega (arith, ap length c.cut.ensures.nodes, ap length (c.if-advance.ensures.cut refl), long_take (c.args.place + 1) c.advance.new.walk.nodes (omega (arith, ap length (c.if-advance.ensures.cut refl), long_take (c.args.place + 1 + 1) c.args.walk.now.nodes (omega (arith, lt)))))

pub enter-requires-clause-room : goal.enter-requires-clause-room
enter-requires-clause-room t c =
    let next = row_of c.args.self.now.rows.items in
    let lt : c.args.place + 1 < length c.args.walk.now.nodes = omega (arith, c.requires.within, c.if-behind-count.false, c.len-count.ensures.nodes) in
    let s = stands next c.args.self.now.to c.args.left c.args.place c.args.walk.now.nodes lt c.requires.there in
    omega (arith, s.left, c.requires.room, c.cut.ensures.room, c.if-advance.ensures.room, ap length c.cut.ensures.nodes, ap length (c.if-advance.ensures.cut refl), long_take (c.args.place + 1) c.advance.new.walk.nodes (omega (arith, ap length (c.if-advance.ensures.cut refl), long_take (c.args.place + 1 + 1) c.args.walk.now.nodes (omega (arith, lt)))))

pub returns : goal.returns
returns t c =
    let rows = c.args.self.now.rows.items in
    let next = row_of rows in
    let nodes = c.args.walk.now.nodes in
    let lt : c.args.place + 1 < length nodes = omega (arith, c.requires.within, c.if-behind-count.false, c.len-count.ensures.nodes) in
    let s = stands next c.args.self.now.to c.args.left c.args.place nodes lt c.requires.there in
    let row : c.nodes_at.result.now ≡ next (slice_index nodes c.args.place) = c.nodes_at.ensures ∙ ap (λ (rs : List (List ℕ)). row_of rs c.node-node.result) c.deref.ensures.value ∙ ap next c.node-node.ensures in
    let behind : IsBehind (next (slice_index nodes c.args.place)) (slice_index nodes (c.args.place + 1)) c.place_behind-first.result =
    subst (λ (l : List ℕ). IsBehind l (slice_index nodes (c.args.place + 1)) c.place_behind-first.result) row (subst (λ (n : ℕ). IsBehind c.nodes_at.result.now n c.place_behind-first.result) c.node-other.ensures c.place_behind-first.ensures) in
    from_turn next c.args.self.now.to c.args.left c.args.place c.place_behind-first.result c.args.walk.now c.advance.new.walk c.cut.new.self c.enter.new.walk lt s c.if-advance.ensures behind c.cut.ensures.nodes c.cut.ensures.room c.enter.result c.enter.ensures
