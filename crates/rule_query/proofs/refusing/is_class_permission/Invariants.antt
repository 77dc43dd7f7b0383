use Rattle.std.proofs.Common.{◌≡◌, false, take}
use Rattle.std.specs.List.{list_any}
use Rattle.rule_query.specs.Refusals.{is_permission_of}
use Rattle.rule_query.proofs.refusing.is_class_permission.Given as goal

abbrev pub invariant-loop-i : goal.invariant-loop-i
invariant-loop-i l = list_any (λ class. is_permission_of class.value.permissions l.name) (take l.i l.symbols.classes.records) ≡ false
