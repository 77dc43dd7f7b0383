use Rattle.std.proofs.Common.{◌≡◌, ◌++◌}
use Rattle.pol_commons.proofs.permission_list.PermissionList.rec.Given as goal

abbrev pub invariant-loop-permission : goal.invariant-loop-permission
invariant-loop-permission l = l.permissions.items ++ l.permission-iterator ≡ l.self
