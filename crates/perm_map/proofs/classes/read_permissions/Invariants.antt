use Rattle.perm_map.specs.PermissionMap.{permission_at}
use Rattle.perm_map.proofs.Repeating.{Done}
use Rattle.perm_map.proofs.classes.read_permissions.Given as goal

abbrev pub invariant-loop : goal.invariant-loop
invariant-loop l = Done (permission_at l.initial.rows.past l.class) l.count l.counter l.initial.rows l.rows l.initial.map l.map
