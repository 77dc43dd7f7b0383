use Rattle.std.proofs.Common.{◌≡◌, ◌++◌}
use Rattle.diff_constraints.specs.StatedConstraints.{sets_of}
use Rattle.diff_constraints.proofs.stated.sets_of.Given as goal

-- the sets so far and those of what is left are all
abbrev pub invariant-loop-item : goal.invariant-loop-item
invariant-loop-item l = l.sets.items ++ sets_of l.symbols l.item-iterator ≡ sets_of l.symbols l.fn.items
