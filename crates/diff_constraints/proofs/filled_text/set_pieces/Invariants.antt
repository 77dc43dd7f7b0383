use Rattle.std.proofs.Common.{◌≡◌, ◌++◌, drop}
use Rattle.diff_constraints.specs.ConstraintDifferences.{set_pieces}
use Rattle.diff_constraints.proofs.filled_text.set_pieces.Given as goal

-- the pieces so far and those of what is left are all
abbrev pub invariant-loop-i : goal.invariant-loop-i
invariant-loop-i l = l.pieces.items ++ set_pieces (drop l.i l.old) (drop l.i l.new) ≡ set_pieces l.old l.new
