use Rattle.std.proofs.Common.{◌∙◌, ap, sym, subst, refl}
use Rattle.pol_cursor.specs.NestedRecords.{nested_end}
use Rattle.pol_cursor.proofs.NestedLists.{nested_has, nested_end_next}
use Rattle.pol_constraints.specs.ConstraintRecord.{constraint_end, HasConstraint}
use Rattle.pol_classes.proofs.constraint_list.constraints_end.Goals as goal

pub constraint_end-end-requires : goal.constraint_end-end-requires
constraint_end-end-requires c = subst (HasConstraint c.args.version c.args.bytes.now) (sym c.loop.invariant) (nested_has (HasConstraint c.args.version) (constraint_end c.args.version) c.args.bytes.now c.args.place c.args.count c.loop.counter c.loop-test.true c.requires)

pub loop-preserved : goal.loop-preserved
loop-preserved c = c.constraint_end-end.ensures ∙ ap (constraint_end c.args.version c.args.bytes.now) c.loop.invariant ∙ sym (nested_end_next (constraint_end c.args.version) c.args.bytes.now c.args.place c.loop.counter)

pub loop-init : goal.loop-init
unfolding nested_end
loop-init c = refl
