use Rattle.std.proofs.Common.{◌≡◌, take}
use Rattle.pol_cursor.specs.References.{values_of}
use Rattle.pol_tree.proofs.copied_lists.copy_rows.Given as goal

-- the rows before are in the list
abbrev pub invariant-loop-i : goal.invariant-loop-i
invariant-loop-i l = l.list.items ≡ take l.i (values_of l.policy.labels.type_rows)
