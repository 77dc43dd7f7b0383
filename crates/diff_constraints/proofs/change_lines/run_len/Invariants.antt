use Rattle.std.proofs.Common.{◌≡◌, ◌+◌, drop}
use Rattle.std.specs.List.{prefix_len}
use Rattle.diff_constraints.specs.ConstraintDifferences.{same_key}
use Rattle.diff_constraints.proofs.change_lines.run_len.Given as goal

-- how many there are so far, and how many behind them
abbrev pub invariant-loop-other : goal.invariant-loop-other
invariant-loop-other l = (prefix_len (same_key l.sole) l.others ≡ l.len + prefix_len (same_key l.sole) (drop l.other-index l.others)) × (l.len ≡ l.other-index)
