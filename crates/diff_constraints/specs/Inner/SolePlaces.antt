-- The constraint that one of two policies has alone, by its places in both.
use Rattle.std.specs.Prelude.{Option, List}
use Rattle.keyed_lists.specs.declared.pairing.Places.{Places}
use Rattle.keyed_lists.specs.Inner.PlacedEntries.{both_at}
use Rattle.diff_constraints.specs.StatedConstraints.{Stated}
use Rattle.diff_constraints.specs.ConstraintDifferences.{Sole, sole_with}

unfoldable pub sole_at : List Stated → List Stated → Places → Option Sole
sole_at first second places = sole_with (both_at first second places).first (both_at first second places).second
