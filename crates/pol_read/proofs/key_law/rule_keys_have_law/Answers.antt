use Rattle.pol_read.proofs.RuleRanks.{keys_as_names}
use Rattle.pol_read.proofs.key_law.rule_keys_have_law.Goals as goal

pub returns : goal.returns
returns c = keys_as_names
