use Rattle.std.proofs.Common.{sym}
use Rattle.bool_state.proofs.TrueBooleans.{one_more, no_more}
use Rattle.bool_state.proofs.state.push_on.Goals as goal

pub returns-in_ok-push : goal.returns-in_ok-push
returns-in_ok-push c = rw c.in_ok-push.ensures.items (rw c.value.ensures (one_more c.args.given.now c.args.boolean.now c.args.values.now.items (sym c.if-is_on.ensures)))

pub returns-else-is_on : goal.returns-else-is_on
returns-else-is_on c = no_more c.args.given.now c.args.boolean.now c.args.values.now.items (sym c.if-is_on.ensures)
