use Rattle.bool_state.proofs.ConditionValues.{has_value, one_value}
use Rattle.bool_state.proofs.value_laws.conditions_have_one_value.Goals as goal

pub returns-clause-exists : goal.returns-clause-exists
returns-clause-exists c = has_value

pub returns-clause-unique : goal.returns-clause-unique
returns-clause-unique c = one_value
