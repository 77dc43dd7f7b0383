use Rattle.rule_query.proofs.TypeEnds.{set_expands}
use Rattle.rule_query.proofs.ends.expanding.Goals as goal

pub returns : goal.returns
returns c = set_expands c.is_accepted.ensures.accepted.0 c.args.policy.now c.args.types.now c.args.criterion.now c.in_ok-asked.asked c.touching.result c.is_accepted.ensures.accepted.1 c.requires.map c.in_ok-asked.ensures c.touching.ensures
