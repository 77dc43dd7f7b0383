use Rattle.std.proofs.Common.{◌≡◌, List, [], length, subst, arith}
use Rattle.pol_cursor.specs.References.{Placed}
use Rattle.pol_commons.specs.declared.PermissionRec.{PermissionRec}
use Rattle.pol_classes.specs.declared.ClassRec.{ClassRec}
use Rattle.pol_symbols.specs.PolicySymbols.{permissions_of}
use Rattle.rule_text.specs.Inner.ClassPermissions.{AreByName}
use Rattle.rule_text.proofs.PermissionLists.{FirstFit, first_more, all_fit}
use Rattle.rule_text.proofs.permission_table.PermissionTable.new.Goals as goal

pub loop-i-preserved : goal.loop-i-preserved
loop-i-preserved c =
    rw c.in_ok-push.ensures.items (first_more (λ (class : Placed ClassRec) (list : List PermissionRec). AreByName (permissions_of c.args.symbols.now class.value) list) [] c.args.symbols.now.classes.records c.loop-i.i c.view.result c.loop-i.classes.items
    c.in_ok-by_name.field-0 c.loop-i.invariant c.view.ensures c.in_ok-by_name.ensures)

pub returns : goal.returns
returns c =
    let all : c.loop-i.i ≡ length c.args.symbols.now.classes.records = omega (arith, c.len-i-end.ensures) in
    let lists = subst (λ n. FirstFit (λ (class : Placed ClassRec) (list : List PermissionRec). AreByName (permissions_of c.args.symbols.now class.value) list) [] c.args.symbols.now.classes.records n c.loop-i.classes.items) all c.loop-i.invariant in
    record { count = lists.count; each = all_fit _ [] c.args.symbols.now.classes.records c.loop-i.classes.items lists }
