use Rattle.std.proofs.Common.{◌∙◌, ap, sym, rules}
use Rattle.std.specs.Prelude.{map}
use Rattle.pol_cursor.proofs.NestedLists.{nested_first_has, nested_others_stand, nested_none}
use Rattle.pol_commons.specs.PermissionRecord.{permission_in, permission_end, HasPermission}
use Rattle.pol_commons.proofs.NestedValues.{values_first}
use Rattle.pol_commons.proofs.permission_list.PermissionListIterator.next.Goals as goal

pub returns-then-self-eq0-clause-steps : goal.returns-then-self-eq0-clause-steps
returns-then-self-eq0-clause-steps c =
    let v = c.self.inside in
    let none = sym c.self.view_is ∙ ap (map (λ r. r.value)) (nested_none permission_in permission_end v.bytes.now v.place v.count c.if-self-eq0.true) in
    (none, none)

pub at-permission-requires : goal.at-permission-requires
at-permission-requires c =
    let v = c.self.inside in
    nested_first_has permission_in HasPermission permission_end v.bytes.now v.place v.count c.if-self-eq0.false c.self.invariant

pub permission_end-self-inside-requires : goal.permission_end-self-inside-requires
permission_end-self-inside-requires c =
    let v = c.self.inside in
    nested_first_has permission_in HasPermission permission_end v.bytes.now v.place v.count c.if-self-eq0.false c.self.invariant

pub invariant_of-self : goal.invariant_of-self
invariant_of-self c =
    let v = c.self.inside in
    rw c.permission_end-self-inside.ensures (nested_others_stand permission_in HasPermission permission_end v.bytes.now v.place v.count c.if-self-eq0.false c.self.invariant)

pub returns-clause-steps : goal.returns-clause-steps
returns-clause-steps c =
    let v = c.self.inside in
    rw (c.at-permission.ensures, c.permission_end-self-inside.ensures) (sym c.self.view_is ∙ values_first permission_in permission_end v.bytes.now HasPermission v.place v.count c.if-self-eq0.false)

pub returns-clause-goes : goal.returns-clause-goes
returns-clause-goes c = rw (returns-clause-steps c) (search rules)
