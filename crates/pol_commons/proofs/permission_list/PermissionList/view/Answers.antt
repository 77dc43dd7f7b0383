use Rattle.std.proofs.Common.{◌<◌, sym, subst, arith}
use Rattle.pol_cursor.proofs.NestedLists.{nested_has, nested_front}
use Rattle.pol_commons.specs.PermissionRecord.{permission_in, permission_end, HasPermission}
use Rattle.pol_commons.proofs.NestedValues.{length_values_in, get_values_in}
use Rattle.pol_commons.proofs.permission_list.PermissionList.view.Goals as goal

pub permissions_end-requires : goal.permissions_end-requires
permissions_end-requires c =
    let v = c.self.inside in
    let lt : c.args.i < v.count = rw (length_values_in permission_in permission_end v.bytes.now v.place v.count) at (rw (← c.self.view_is) at c.requires) in
    nested_front HasPermission permission_end v.bytes.now v.place v.count c.args.i (omega (arith, lt)) c.self.invariant

pub at-requires : goal.at-requires
at-requires c =
    let v = c.self.inside in
    let lt : c.args.i < v.count = rw (length_values_in permission_in permission_end v.bytes.now v.place v.count) at (rw (← c.self.view_is) at c.requires) in
    subst (HasPermission v.bytes.now) (sym c.permissions_end.ensures) (nested_has HasPermission permission_end v.bytes.now v.place v.count c.args.i lt c.self.invariant)

pub returns : goal.returns
returns c =
    let v = c.self.inside in
    let lt : c.args.i < v.count = rw (length_values_in permission_in permission_end v.bytes.now v.place v.count) at (rw (← c.self.view_is) at c.requires) in
    rw (← c.self.view_is, c.at.ensures, c.permissions_end.ensures) (get_values_in permission_in permission_end v.bytes.now v.place v.count c.args.i lt)
