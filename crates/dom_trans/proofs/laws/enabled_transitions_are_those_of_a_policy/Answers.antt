use Rattle.dom_trans.proofs.EnabledTransitions.{entries_alike, transitions_alike}
use Rattle.dom_trans.proofs.laws.enabled_transitions_are_those_of_a_policy.Goals as goal

pub returns-clause-transitions : goal.returns-clause-transitions
returns-clause-transitions c = transitions_alike

pub returns-clause-entries : goal.returns-clause-entries
returns-clause-entries c = entries_alike
