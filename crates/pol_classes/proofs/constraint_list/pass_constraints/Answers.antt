use Rattle.std.proofs.lemmas.Result.{err_from_is_err_and}
use Rattle.pol_cursor.proofs.NestedLists.{PassingNested-start, PassingNested-next, PassingNested-bad, PassingNested-end}
use Rattle.pol_constraints.specs.ConstraintRecord.{constraint_at, constraint_in, constraint_end, HasConstraint}
use Rattle.pol_classes.proofs.constraint_list.pass_constraints.Goals as goal

pub loop-init : goal.loop-init
loop-init c = PassingNested-start (constraint_at c.args.version c.args.xtarget) (constraint_in c.args.version) (HasConstraint c.args.version) (constraint_end c.args.version) c.args.n c.args.c.now

pub returns-in_err-read_constraint-clause-exact : goal.returns-in_err-read_constraint-clause-exact
returns-in_err-read_constraint-clause-exact c =
    let p = err_from_is_err_and c.from_residual.result c.from_residual.ensures.1 in
    rw (p.1, p.2) (PassingNested-bad (constraint_at c.args.version c.args.xtarget) (constraint_in c.args.version) (HasConstraint c.args.version) (constraint_end c.args.version) c.args.n c.args.c.now
    c.loop.counter c.loop.c c.in_err-read_constraint.field-0.0 c.loop-test.true c.in_err-read_constraint.ensures.exact c.loop.invariant)

pub loop-preserved : goal.loop-preserved
loop-preserved c =
    PassingNested-next (constraint_at c.args.version c.args.xtarget) (constraint_in c.args.version) (HasConstraint c.args.version) (constraint_end c.args.version) c.args.n c.args.c.now
    c.loop.counter c.loop.c c.read_constraint.new.c c.loop-test.true (rw (← c.in_ok-read_constraint.ensures.stands.1) c.in_ok-read_constraint.ensures.exact)
    c.in_ok-read_constraint.ensures.stands.0 c.in_ok-read_constraint.ensures.next c.loop.invariant

pub returns : goal.returns
returns c =
    let p = PassingNested-end (constraint_at c.args.version c.args.xtarget) (constraint_in c.args.version) (HasConstraint c.args.version) (constraint_end c.args.version) c.args.n c.args.c.now c.loop.counter c.loop.c c.loop-test.false c.loop.invariant in
    record { exact = p.read; stand = p.stand; next = p.end }
