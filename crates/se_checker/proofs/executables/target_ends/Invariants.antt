use Rattle.std.proofs.Common.{◌≡◌, ◌+◌, take}
use Rattle.rules_between.specs.Inner.RuleTables.{AreTargetsOf}
use Rattle.se_checker.proofs.executables.target_ends.Given as goal

abbrev pub invariant-loop-number : goal.invariant-loop-number
invariant-loop-number l = (l.ends.count ≡ l.policy.symbols.types.nprim + 1) × AreTargetsOf l.policy (take l.number-index l.numbers) l.ends.values
