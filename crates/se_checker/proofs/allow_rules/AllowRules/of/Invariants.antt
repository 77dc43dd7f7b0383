use Rattle.se_checker.specs.Inner.AllowRules.{AreAllowed}
use Rattle.se_checker.proofs.allow_rules.AllowRules.of.Given as goal

abbrev pub invariant-loop-number : goal.invariant-loop-number
invariant-loop-number l = AreAllowed l.policy l.number l.classes.items
