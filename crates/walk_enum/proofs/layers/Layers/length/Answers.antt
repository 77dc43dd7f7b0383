use Rattle.std.proofs.Common.{ℕ, List, length, arith, ap, ◌≡◌, ◌+◌}
use Rattle.std.specs.List.{Contains}
use Rattle.std.proofs.lemmas.List.Elements.{All-weaker, All-contains_itself}
use Rattle.walk_enum.specs.Walks.{walks_along}
use Rattle.walk_enum.specs.Inner.Turns.{row_of}
use Rattle.walk_enum.proofs.Along.{walk_length}
use Rattle.walk_enum.proofs.Turning.{begins}
use Rattle.walk_enum.proofs.layers.Layers.length.Goals as goal

pub returns-clause-some : goal.returns-clause-some
returns-clause-some c =
    let t = c.self.inside.table in
    let b = begins (row_of t.rows.items) t.from t.to t.step_count c.self.invariant.0.leads in
    rw (← c.self.view_is) (omega (arith, ap length b.1))

pub returns-clause-each : goal.returns-clause-each
returns-clause-each c =
    let t = c.self.inside.table in
    let ws = walks_along (row_of t.rows.items) t.from t.to t.step_count in
    rw (← c.self.view_is) (All-weaker (Contains ws) (λ (w : List ℕ). length w ≡ t.step_count + 1) (walk_length (row_of t.rows.items) t.from t.to t.step_count) ws (All-contains_itself ws))
