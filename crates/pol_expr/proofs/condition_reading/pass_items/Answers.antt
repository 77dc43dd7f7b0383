use Rattle.std.proofs.Common.{List, ap, ◌∙◌, subst, arith}
use Rattle.std.proofs.lemmas.Result.{err_from_is_err_and}
use Rattle.pol_cursor.specs.Outcome.{Got}
use Rattle.pol_cursor.proofs.Lists.{Passing-start, Passing-next, Passing-bad, Passing-end}
use Rattle.pol_expr.specs.declared.codes.TheConstants.{COND_EXPR_MAXDEPTH}
use Rattle.pol_expr.specs.declared.condition_rec.ConditionItem.{ConditionItem}
use Rattle.pol_expr.specs.ConditionRecord.{item_at, item_operands, values_after_item, items_at, IsCondition}
use Rattle.pol_expr.proofs.ItemPlaces.{are_items, item_is}
use Rattle.pol_expr.proofs.PostfixReading.{list_postfix}
use Rattle.pol_expr.proofs.condition_reading.pass_items.Goals as goal

pub loop-i-init : goal.loop-i-init
loop-i-init c = record { passing = Passing-start item_at values_after_item c.args.count 0 c.args.c.now; few = omega arith }

pub returns-in_err-item-clause-exact : goal.returns-in_err-item-clause-exact
unfolding items_at
returns-in_err-item-clause-exact c =
    let p = err_from_is_err_and c.from_residual.result c.from_residual.ensures.1 in
    rw (p.1, p.2) (Passing-bad item_at values_after_item c.args.count 0 c.args.c.now c.loop-i.i c.loop-i.values c.loop-i.c c.in_err-item.field-0.0 c.loop-i-test.true c.in_err-item.ensures.exact c.loop-i.invariant.passing)

pub loop-i-preserved : goal.loop-i-preserved
loop-i-preserved c =
    rw c.kind_operands.ensures.exact (record {
      passing = Passing-next item_at values_after_item c.args.count 0 c.args.c.now c.loop-i.i c.loop-i.values c.loop-i.c c.in_ok-item.item c.read_item.new.c c.loop-i-test.true c.in_ok-item.ensures.exact c.loop-i.invariant.passing;
      few = c.in_ok-item.ensures.fits.1;
    })

pub returns : goal.returns
unfolding items_at
returns c =
    let s = Passing-end item_at values_after_item c.args.count 0 c.args.c.now c.loop-i.i c.loop-i.values c.loop-i.c c.loop-i-test.false c.loop-i.invariant.passing in
    let p = are_items c.args.count 0 c.args.c.now.bytes c.args.c.now.place s.value c.loop-i.c.place s.read in
    record { exact = (s.read ∙ ap (λ (items : List ConditionItem). Got items c.loop-i.c.place) p.are, s.same); expression = λ some. subst IsCondition p.are (list_postfix item_at item_operands COND_EXPR_MAXDEPTH (λ left values bytes place x next e. (item_is left values bytes place x next e).operands) c.args.count 0 c.args.c.now.bytes c.args.c.now.place s.value c.loop-i.c.place s.read (omega arith) (λ none. omega arith)); next = p.ends; long = λ le. omega (arith, p.long le) }
