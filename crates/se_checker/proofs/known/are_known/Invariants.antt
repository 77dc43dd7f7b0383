use Rattle.std.proofs.Common.{◌≡◌, length}
use Rattle.std.specs.List.{list_all}
use Rattle.text_rows.specs.TextLines.{fields_in}
use Rattle.se_checker.specs.KnownNames.{is_known}
use Rattle.se_checker.proofs.known.are_known.Given as goal

abbrev pub invariant-loop-name : goal.invariant-loop-name
invariant-loop-name l = list_all (is_known l.symbols l.missing l.key) (fields_in l.rest) ≡ list_all (is_known l.symbols l.missing l.key) (fields_in l.names)

abbrev pub decreases-loop-name : goal.decreases-loop-name
decreases-loop-name l = length (fields_in l.rest)
