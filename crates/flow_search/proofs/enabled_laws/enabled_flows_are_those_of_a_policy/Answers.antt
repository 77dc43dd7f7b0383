use Rattle.flow_search.proofs.EnabledFlows.{enabled_weight}
use Rattle.flow_search.proofs.EnabledOrder.{enabled_listed}
use Rattle.flow_search.proofs.enabled_laws.enabled_flows_are_those_of_a_policy.Goals as goal

pub returns-clause-weights : goal.returns-clause-weights
returns-clause-weights c = enabled_weight

pub returns-clause-rules : goal.returns-clause-rules
returns-clause-rules c = enabled_listed
