use Rattle.std.proofs.Common.{◌≡◌, ◌++◌, drop}
use Rattle.pol_expr.specs.ConditionMeaning.{booleans_in}
use Rattle.pol_expr.proofs.condition_view.ConditionView.booleans_of.Given as goal

abbrev pub invariant-loop-i : goal.invariant-loop-i
invariant-loop-i l = l.booleans.items ++ booleans_in (drop l.i l.self.value.items) ≡ booleans_in l.self.value.items
