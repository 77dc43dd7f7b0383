use Rattle.perm_map.specs.PermissionMap.{class_at}
use Rattle.perm_map.proofs.Repeating.{Done}
use Rattle.perm_map.proofs.classes.read_each_class.Given as goal

abbrev pub invariant-loop : goal.invariant-loop
invariant-loop l = Done (class_at l.initial.rows.past) l.count l.counter l.initial.rows l.rows l.initial.map l.map
