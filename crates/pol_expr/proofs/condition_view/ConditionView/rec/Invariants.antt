use Rattle.std.proofs.Common.{◌≡◌, take}
use Rattle.pol_expr.proofs.condition_view.ConditionView.rec.Given as goal

abbrev pub invariant-loop-i : goal.invariant-loop-i
invariant-loop-i l = l.items.items ≡ take l.i l.self.value.items
