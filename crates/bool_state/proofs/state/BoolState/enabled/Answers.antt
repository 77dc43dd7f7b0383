use Rattle.bool_state.proofs.ConditionValues.{value_decides}
use Rattle.bool_state.proofs.state.BoolState.enabled.Goals as goal

pub returns : goal.returns
returns c = value_decides c.args.self.now c.args.condition.now.value.items c.value.result c.args.branch c.value.ensures.tree
