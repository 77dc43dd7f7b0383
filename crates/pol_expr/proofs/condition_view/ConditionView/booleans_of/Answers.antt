use Rattle.std.proofs.Common.{List, ℕ, ◌≡◌, subst, arith}
use Rattle.std.specs.Prelude.{◌↔◌, IfOk, Contains}
use Rattle.pol_bitmap.specs.declared.node.Node.{Node}
use Rattle.pol_bitmap.specs.Nodes.{bits_of}
use Rattle.pol_expr.specs.ConditionMeaning.{booleans_in}
use Rattle.pol_expr.proofs.BooleanSets.{booleans_next, booleans_end}
use Rattle.pol_expr.proofs.condition_view.ConditionView.booleans_of.Goals as goal

pub loop-i-preserved : goal.loop-i-preserved
loop-i-preserved c = rw c.in_ok-push_boolean.ensures (booleans_next c.args.self.now.value.items c.loop-i.i c.item.result c.loop-i.booleans.items _ c.item.ensures c.loop-i.invariant)

pub returns : goal.returns
returns c =
    let all : c.loop-i.booleans.items ≡ booleans_in c.args.self.now.value.items = booleans_end c.args.self.now.value.items c.loop-i.i c.loop-i.booleans.items (omega arith) c.loop-i.invariant in
    subst (λ (l : List ℕ). IfOk c.from_values.result (λ (s : List Node). (b : ℕ) → Contains (bits_of s) b ↔ Contains l b)) all c.from_values.ensures.bits
