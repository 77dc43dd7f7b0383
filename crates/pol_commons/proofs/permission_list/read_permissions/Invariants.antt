use Rattle.pol_commons.proofs.ListedPermissions.{Listed}
use Rattle.pol_commons.proofs.permission_list.read_permissions.Given as goal

abbrev pub invariant-loop-i : goal.invariant-loop-i
invariant-loop-i l = Listed l.inherited l.n l.fn.c l.i l.c
