use Rattle.std.proofs.Common.{◌≡◌, Some, length}
use Rattle.text_rows.specs.TextLines.{fields_in}
use Rattle.se_checker.specs.Verdicts.{asks_class}
use Rattle.se_checker.proofs.asked.names_class.Given as goal

abbrev pub invariant-loop-name : goal.invariant-loop-name
invariant-loop-name l = asks_class l.symbols (Some (fields_in l.rest)) l.class ≡ asks_class l.symbols (Some (fields_in l.names)) l.class

abbrev pub decreases-loop-name : goal.decreases-loop-name
decreases-loop-name l = length (fields_in l.rest)
