use Rattle.pol_expr.proofs.ConditionTrees.{tells_in}
use Rattle.pol_expr.proofs.condition_value.is_in.Goals as goal

pub returns : goal.returns
returns c = tells_in c.has.result c.args.on.now c.args.boolean c.has.ensures
