use Rattle.std.proofs.Common.{◌≡◌, ◌+◌, length}
use Rattle.text_rows.specs.TextLines.{fields_in}
use Rattle.se_checker.proofs.NamedTypes.{Finding}
use Rattle.se_checker.proofs.named_types.members.Given as goal

abbrev pub invariant-each : goal.invariant-each
invariant-each l = (l.found.count ≡ l.policy.symbols.types.nprim + 1) × Finding l.policy (fields_in l.names) (fields_in l.rest) l.found.values

abbrev pub decreases-each : goal.decreases-each
decreases-each l = length (fields_in l.rest)
