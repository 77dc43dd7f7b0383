use Rattle.std.proofs.Common.{◌<◌, sym, subst, arith}
use Rattle.pol_cursor.proofs.NestedLists.{nested_has, nested_front}
use Rattle.pol_constraints.specs.ConstraintRecord.{constraint_in, constraint_end, HasConstraint}
use Rattle.pol_commons.proofs.NestedValues.{length_values_in, get_values_in}
use Rattle.pol_classes.proofs.constraint_list.ConstraintList.view.Goals as goal

pub constraints_end-place-requires : goal.constraints_end-place-requires
constraints_end-place-requires c =
    let v = c.self.inside in
    let lt : c.args.i < v.count = rw (length_values_in (constraint_in v.version) (constraint_end v.version) v.bytes.now v.place v.count) at (rw (← c.self.view_is) at c.requires) in
    nested_front (HasConstraint v.version) (constraint_end v.version) v.bytes.now v.place v.count c.args.i (omega (arith, lt)) c.self.invariant

pub at-requires : goal.at-requires
at-requires c =
    let v = c.self.inside in
    let lt : c.args.i < v.count = rw (length_values_in (constraint_in v.version) (constraint_end v.version) v.bytes.now v.place v.count) at (rw (← c.self.view_is) at c.requires) in
    subst (HasConstraint v.version v.bytes.now) (sym c.constraints_end-place.ensures) (nested_has (HasConstraint v.version) (constraint_end v.version) v.bytes.now v.place v.count c.args.i lt c.self.invariant)

pub returns : goal.returns
returns c =
    let v = c.self.inside in
    let lt : c.args.i < v.count = rw (length_values_in (constraint_in v.version) (constraint_end v.version) v.bytes.now v.place v.count) at (rw (← c.self.view_is) at c.requires) in
    rw (← c.self.view_is, c.at.ensures, c.constraints_end-place.ensures) (get_values_in (constraint_in v.version) (constraint_end v.version) v.bytes.now v.place v.count c.args.i lt)
