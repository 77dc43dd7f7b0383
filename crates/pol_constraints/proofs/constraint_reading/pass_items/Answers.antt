use Rattle.std.proofs.Common.{arith}
use Rattle.std.proofs.lemmas.Result.{err_from_is_err_and}
use Rattle.pol_cursor.proofs.Lists.{Going-bad, Going-end}
use Rattle.pol_constraints.specs.declared.codes.TheConstants.{CEXPR_MAXDEPTH}
use Rattle.pol_constraints.specs.ConstraintRecord.{item_at, item_operands, values_after_item, items_at, items_in}
use Rattle.pol_expr.proofs.PostfixReading.{list_postfix}
use Rattle.pol_constraints.proofs.ConstraintPlaces.{Passed-start, Passed-next, Passed-end, item_has_operands}
use Rattle.pol_constraints.proofs.constraint_reading.pass_items.Goals as goal

pub loop-i-init : goal.loop-i-init
loop-i-init c = record { passed = Passed-start c.args.version c.args.xtarget c.args.count c.args.c.now; few = omega arith }

pub returns-in_err-values-clause-exact : goal.returns-in_err-values-clause-exact
unfolding items_at
returns-in_err-values-clause-exact c =
    let p = err_from_is_err_and c.from_residual.result c.from_residual.ensures.1 in
    rw (p.1, p.2) (Going-bad (item_at c.args.version c.args.xtarget) values_after_item c.args.count 0 c.args.c.now c.loop-i.i c.loop-i.values c.loop-i.c _ c.in_err-values.field-0.0 c.loop-i-test.true c.in_err-values.ensures.exact c.loop-i.invariant.passed.going)

pub loop-i-preserved : goal.loop-i-preserved
loop-i-preserved c = record {
  passed = Passed-next c.args.version c.args.xtarget c.args.count c.args.c.now c.loop-i.i c.loop-i.values c.loop-i.c c.in_ok-values.values c.pass_item.new.c c.loop-i-test.true c.in_ok-values.ensures.exact c.in_ok-values.ensures.next c.in_ok-values.ensures.has c.in_ok-values.ensures.values.0 c.loop-i.invariant.passed;
  few = c.in_ok-values.ensures.values.1;
}

pub returns : goal.returns
unfolding items_at
returns c =
    let h = Passed-end c.args.version c.args.xtarget c.args.count c.args.c.now c.loop-i.i c.loop-i.values c.loop-i.c c.loop-i-test.false c.loop-i.auto.i-end c.loop-i.invariant.passed in
    let e = Going-end (item_at c.args.version c.args.xtarget) values_after_item c.args.count 0 c.args.c.now c.args.count c.loop-i.values c.loop-i.c (items_in c.args.version c.args.c.now.bytes c.args.c.now.place c.args.count) (omega arith) h.going in
    record {
      exact = (e, h.going.same);
      expression = λ some. list_postfix (item_at c.args.version c.args.xtarget) item_operands CEXPR_MAXDEPTH (item_has_operands c.args.version c.args.xtarget) c.args.count 0 c.args.c.now.bytes c.args.c.now.place _ c.loop-i.c.place e (omega arith) (λ none. omega arith);
      next = h.ends;
      has = h.has;
    }
