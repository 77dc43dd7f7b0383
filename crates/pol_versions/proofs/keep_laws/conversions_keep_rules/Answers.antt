use Rattle.pol_versions.proofs.KeptRules.{conversion_keeps_rules}
use Rattle.pol_versions.proofs.keep_laws.conversions_keep_rules.Goals as goal

pub returns : goal.returns
returns c = conversion_keeps_rules
