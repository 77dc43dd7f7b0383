use Rattle.std.proofs.Common.{List, []}
use Rattle.pol_cursor.specs.References.{Placed}
use Rattle.pol_commons.specs.declared.PermissionRec.{PermissionRec}
use Rattle.pol_classes.specs.declared.ClassRec.{ClassRec}
use Rattle.pol_symbols.specs.PolicySymbols.{permissions_of}
use Rattle.rule_text.specs.Inner.ClassPermissions.{AreByName}
use Rattle.rule_text.proofs.PermissionLists.{FirstFit}
use Rattle.rule_text.proofs.permission_table.PermissionTable.new.Given as goal

-- each of the classes before has its list
abbrev pub invariant-loop-i : goal.invariant-loop-i
invariant-loop-i l = FirstFit (λ (class : Placed ClassRec) (list : List PermissionRec). AreByName (permissions_of l.symbols class.value) list) [] l.symbols.classes.records l.i l.classes.items
