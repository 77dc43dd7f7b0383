use Rattle.pol_moved.proofs.HeldRules.{rules-read}
use Rattle.pol_moved.proofs.moved_laws.rules_are_read_at_versions.Goals as goal

pub returns : goal.returns
returns c = rules-read
