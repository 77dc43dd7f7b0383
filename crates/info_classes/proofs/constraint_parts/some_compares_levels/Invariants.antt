use Rattle.std.proofs.Common.{◌≡◌}
use Rattle.std.specs.List.{list_any}
use Rattle.info_classes.specs.ConstraintLines.{compares_levels}
use Rattle.info_classes.proofs.constraint_parts.some_compares_levels.Given as goal

abbrev pub invariant-loop-item : goal.invariant-loop-item
invariant-loop-item l = list_any compares_levels l.item-iterator ≡ list_any compares_levels l.fn.items
