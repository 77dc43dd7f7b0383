use Rattle.std.proofs.Common.{◌≡◌, ◌++◌, take}
use Rattle.se_checker.specs.Inner.AskedBits.{has_asked, numbers_passing}
use Rattle.se_checker.proofs.assertions.push_passing.Given as goal

abbrev pub invariant-loop-rule : goal.invariant-loop-rule
invariant-loop-rule l = l.found.items ≡ l.fn.found.items ++ numbers_passing (has_asked l.bits) l.sources.values l.targets.values (take l.rule-index l.rules)
