use Rattle.std.proofs.Common.{map}
use Rattle.rule_tests.proofs.ClassesMade.{AreMade}
use Rattle.rule_tests.proofs.permission_test.all_classes.Given as goal

abbrev pub invariant-loop-number : goal.invariant-loop-number
invariant-loop-number l = AreMade l.symbols (map (λ name. name.now) l.names) l.number l.classes.items
