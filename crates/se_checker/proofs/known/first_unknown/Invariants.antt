use Rattle.std.proofs.Common.{◌≡◌, drop}
use Rattle.se_checker.specs.KnownNames.{first_unknown}
use Rattle.se_checker.proofs.known.first_unknown.Given as goal

abbrev pub invariant-loop-i : goal.invariant-loop-i
invariant-loop-i l = first_unknown l.symbols (drop l.i l.list) ≡ first_unknown l.symbols l.list
