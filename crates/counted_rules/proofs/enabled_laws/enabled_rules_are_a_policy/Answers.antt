use Rattle.counted_rules.proofs.OnlyEnabled.{enabled_rules}
use Rattle.counted_rules.proofs.enabled_laws.enabled_rules_are_a_policy.Goals as goal

pub returns : goal.returns
returns c = enabled_rules
