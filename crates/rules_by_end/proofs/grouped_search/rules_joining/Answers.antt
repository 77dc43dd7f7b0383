use Rattle.rules_by_end.proofs.Rows.{joining_more}
use Rattle.rules_by_end.proofs.grouped_search.rules_joining.Goals as goal

pub loop-end-preserved : goal.loop-end-preserved
loop-end-preserved c =
    joining_more c.args.rows.now c.args.from.now c.args.to.now.values c.loop-end.end-index c.loop-end.found.items c.push_joining.new.found.items c.loop-end-test.true c.loop-end.invariant (rw c.under.ensures.rows at c.in_ok-push_joining.ensures)
