use Rattle.std.proofs.Common.{◌≡◌}
use Rattle.pol_commons.specs.Permissions.{permissions_end}
use Rattle.pol_commons.proofs.permission_list.permissions_end.Given as goal

abbrev pub invariant-loop : goal.invariant-loop
invariant-loop l = l.end ≡ permissions_end l.bytes l.place l.counter
