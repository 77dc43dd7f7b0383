use Rattle.std.proofs.Common.{◌≡◌, ◌<◌, ℕ, List, sym, subst, ap, ◌∙◌, length, drop}
use Rattle.std.specs.List.{Contains}
use Rattle.walk_enum.specs.Inner.Turns.{row_of}
use Rattle.walk_simple.specs.Rooms.{AllWalks, WalkInRoom}
use Rattle.walk_simple.specs.Inner.Tables.{ways_at}
use Rattle.walk_simple.proofs.Telling.{some_nodes, there_at, told_next, told_last}
use Rattle.walk_simple.proofs.simple.Simple.next_walk.Goals as goal

pub advance-requires-clause-within : goal.advance-requires-clause-within
advance-requires-clause-within c =
    let t = c.self.inside in
    let same : c.copy.new.self.nodes ≡ c.args.walk.now.nodes = ap (λ (w : WalkInRoom). w.nodes) (c.copy.ensures ∙ c.walk.view_is) in
    subst (λ (l : List ℕ). 0 < length l) (sym same) (some_nodes (row_of t.table.rows.items) t.from t.table.to t.most c.args.self.now.walks c.args.walk.now.nodes (ap (λ (s : AllWalks). s.walks) c.self.view_is) c.requires.there)

pub advance-requires-clause-there : goal.advance-requires-clause-there
advance-requires-clause-there c =
    let t = c.self.inside in
    let same : c.copy.new.self.nodes ≡ c.args.walk.now.nodes = ap (λ (w : WalkInRoom). w.nodes) (c.copy.ensures ∙ c.walk.view_is) in
    subst (λ (l : List ℕ). Contains (ways_at (row_of t.table.rows.items) t.table.to t.most l 0) (drop 0 l)) (sym same) (there_at (row_of t.table.rows.items) t.from t.table.to t.most c.args.self.now.walks c.args.walk.now.nodes (ap (λ (s : AllWalks). s.walks) c.self.view_is) c.requires.there)

pub returns-then-not-advance-clause-moves : goal.returns-then-not-advance-clause-moves
returns-then-not-advance-clause-moves c =
    let t = c.self.inside in
    let same : c.copy.new.self.nodes ≡ c.args.walk.now.nodes = ap (λ (w : WalkInRoom). w.nodes) (c.copy.ensures ∙ c.walk.view_is) in
    rw (ap (λ (w : WalkInRoom). w.nodes) c.walk.view_is) (told_last (row_of t.table.rows.items) t.from t.table.to t.most c.args.self.now.walks c.args.walk.now.nodes (ap (λ (s : AllWalks). s.walks) c.self.view_is) c.requires.there c.self.invariant.0.rising c.copy.new.self c.advance.new.walk same c.if-not-advance.ensures)

pub returns-clause-moves : goal.returns-clause-moves
returns-clause-moves c =
    let t = c.self.inside in
    let same : c.copy.new.self.nodes ≡ c.args.walk.now.nodes = ap (λ (w : WalkInRoom). w.nodes) (c.copy.ensures ∙ c.walk.view_is) in
    rw (ap (λ (w : WalkInRoom). w.nodes) c.swap.ensures.x_after) (told_next (row_of t.table.rows.items) t.from t.table.to t.most c.args.self.now.walks c.args.walk.now.nodes (ap (λ (s : AllWalks). s.walks) c.self.view_is) c.requires.there c.self.invariant.0.rising c.copy.new.self c.advance.new.walk same c.if-not-advance.ensures)
