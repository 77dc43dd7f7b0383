use Rattle.std.proofs.Common.{◌≡◌, ◌++◌, map}
use Rattle.perm_map.specs.PermissionMap.{weights_of}
use Rattle.flow_search.specs.Inner.WeightTables.{weighed}
use Rattle.flow_search.proofs.class_weights.push_list.Given as goal

-- the weights that were added and the weights that are left
abbrev pub invariant-loop-permission : goal.invariant-loop-permission
invariant-loop-permission l =
    l.weights.items ++ map (weighed (weights_of l.known) l.class) l.permission-iterator ≡ l.fn.weights.items ++ map (weighed (weights_of l.known) l.class) l.fn.list
