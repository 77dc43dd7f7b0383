use Rattle.std.proofs.Common.{◌≡◌, take}
use Rattle.pol_cursor.specs.References.{values_of}
use Rattle.pol_tree.proofs.copied_lists.copy_classes.Given as goal

-- the records before are in the list
abbrev pub invariant-loop-i : goal.invariant-loop-i
invariant-loop-i l = l.list.items ≡ values_of (take l.i l.classes.records)
