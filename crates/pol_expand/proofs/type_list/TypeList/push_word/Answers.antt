use Rattle.std.proofs.Common.{◌<◌, ℕ, sym, subst, arith}
use Rattle.std.specs.List.{All}
use Rattle.pol_expand.proofs.Gains.{node_behind, nothing_behind}
use Rattle.pol_expand.proofs.type_list.TypeList.push_word.Goals as goal

pub invariant_of-self : goal.invariant_of-self
invariant_of-self c =
    let below = subst (All (λ (other : ℕ). other < c.args.start)) (sym c.self.view_is) c.requires.above in
    rw c.in_ok-push.ensures.items
    (node_behind c.self.inside.nodes.items c.args.start c.args.map c.self.invariant c.requires.whole (omega (arith, c.ranges.start)) (omega (arith, c.if-map-ne0.true)) (omega (arith, c.ranges.map)) below)

pub returns-else-map-ne0 : goal.returns-else-map-ne0
returns-else-map-ne0 c = nothing_behind c.args.self.now c.args.start c.args.map c.if-map-ne0.false
