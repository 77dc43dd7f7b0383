use Rattle.std.proofs.Common.{◌≡◌, ◌≤◌, ◌++◌, false, drop, length}
use Rattle.diff_constraints.specs.ConstraintDifferences.{filled}
use Rattle.diff_constraints.proofs.filled_text.push_filled.Given as goal

-- what was added and what is left to be filled are the whole
abbrev pub invariant-loop-byte : goal.invariant-loop-byte
invariant-loop-byte l =
    (l.buffer.items ++ filled l.within (drop l.next l.pieces) (drop l.byte-index l.text) ≡ l.fn.buffer.items ++ filled false l.pieces l.text) × (l.next ≤ length l.pieces)
