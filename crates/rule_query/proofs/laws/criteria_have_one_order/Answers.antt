use Rattle.rule_query.proofs.GivenOrder.{one_order, order_moved, order_rises}
use Rattle.rule_query.proofs.laws.criteria_have_one_order.Goals as goal

pub returns : goal.returns
returns c = record {
  given = order_moved c.args.criteria.now;
  rising = order_rises c.args.criteria.now;
  one = λ order own moved rising. one_order c.args.criteria.now order own moved rising;
}
