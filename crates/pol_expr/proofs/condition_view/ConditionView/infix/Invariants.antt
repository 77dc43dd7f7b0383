use Rattle.std.specs.Prelude.{reverse}
use Rattle.pol_expr.specs.Infix.{leaf_operand, negated_operand, joined_operands}
use Rattle.pol_expr.specs.ConditionMeaning.{condition_symbols, condition_words}
use Rattle.pol_expr.proofs.Stacks.{Reading}
use Rattle.pol_expr.proofs.condition_view.ConditionView.infix.Given as goal

abbrev pub invariant-loop-i : goal.invariant-loop-i
invariant-loop-i g l =
    let words = condition_words (g.N.Names.named l.names) in
    Reading (leaf_operand words) (negated_operand words) (joined_operands words) 10 (condition_symbols l.self.value.items) l.i (reverse l.operands.items)
