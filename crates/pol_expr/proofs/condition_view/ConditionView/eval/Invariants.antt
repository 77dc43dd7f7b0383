use Rattle.std.specs.Prelude.{not, reverse}
use Rattle.pol_expr.specs.ConditionMeaning.{condition_symbols, truth_of, is_in}
use Rattle.pol_expr.proofs.Stacks.{Reading}
use Rattle.pol_expr.proofs.condition_view.ConditionView.eval.Given as goal

abbrev pub invariant-loop-i : goal.invariant-loop-i
invariant-loop-i l = Reading (is_in l.on) not truth_of 10 (condition_symbols l.self.value.items) l.i (reverse l.values.items)
