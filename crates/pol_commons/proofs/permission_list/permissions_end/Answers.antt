use Rattle.std.proofs.Common.{◌∙◌, ap, sym, subst, refl}
use Rattle.pol_cursor.specs.NestedRecords.{nested_end}
use Rattle.pol_cursor.proofs.NestedLists.{nested_has, nested_end_next}
use Rattle.pol_commons.specs.PermissionRecord.{permission_end, HasPermission}
use Rattle.pol_commons.proofs.permission_list.permissions_end.Goals as goal

pub permission_end-end-requires : goal.permission_end-end-requires
permission_end-end-requires c = subst (HasPermission c.args.bytes.now) (sym c.loop.invariant) (nested_has HasPermission permission_end c.args.bytes.now c.args.place c.args.count c.loop.counter c.loop-test.true c.requires)

pub loop-preserved : goal.loop-preserved
loop-preserved c = c.permission_end-end.ensures ∙ ap (permission_end c.args.bytes.now) c.loop.invariant ∙ sym (nested_end_next permission_end c.args.bytes.now c.args.place c.loop.counter)

pub loop-init : goal.loop-init
unfolding nested_end
loop-init c = refl
