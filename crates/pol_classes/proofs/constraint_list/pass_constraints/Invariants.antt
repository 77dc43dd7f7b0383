use Rattle.pol_cursor.proofs.NestedLists.{PassingNested}
use Rattle.pol_constraints.specs.ConstraintRecord.{constraint_at, constraint_in, constraint_end, HasConstraint}
use Rattle.pol_classes.proofs.constraint_list.pass_constraints.Given as goal

abbrev pub invariant-loop : goal.invariant-loop
invariant-loop l = PassingNested (constraint_at l.version l.xtarget) (constraint_in l.version) (HasConstraint l.version) (constraint_end l.version) l.n l.fn.c l.counter l.c
