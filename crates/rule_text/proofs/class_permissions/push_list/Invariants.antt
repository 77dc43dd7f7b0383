use Rattle.std.proofs.Common.{◌≡◌, ◌++◌}
use Rattle.rule_text.proofs.class_permissions.push_list.Given as goal

-- the permissions that were added and the permissions that are left
abbrev pub invariant-loop-permission : goal.invariant-loop-permission
invariant-loop-permission l = l.permissions.items ++ l.permission-iterator ≡ l.fn.permissions.items ++ l.fn.list
