use Rattle.std.proofs.Common.{◌≡◌, ◌++◌, map, take}
use Rattle.diff_constraints.specs.ConstraintDifferences.{sign_text}
use Rattle.diff_constraints.proofs.change_lines.push_each.Given as goal

abbrev pub invariant-loop-sole : goal.invariant-loop-sole
invariant-loop-sole l = l.lines.items ≡ l.fn.lines.items ++ map (λ sole. sign_text sole.is_new ++ sole.stated.line) (take l.sole-index l.soles)
