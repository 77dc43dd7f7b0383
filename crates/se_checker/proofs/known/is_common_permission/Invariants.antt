use Rattle.std.proofs.Common.{◌≡◌, false, take}
use Rattle.std.specs.List.{list_any}
use Rattle.se_checker.specs.KnownNames.{has_name}
use Rattle.se_checker.proofs.known.is_common_permission.Given as goal

abbrev pub invariant-loop-i : goal.invariant-loop-i
invariant-loop-i l = list_any (λ common. has_name common.value.permissions l.name) (take l.i l.symbols.commons.records) ≡ false
