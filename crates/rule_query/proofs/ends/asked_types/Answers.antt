use Rattle.rule_query.proofs.MeantValues.{asked_found, asked_named}
use Rattle.rule_query.proofs.ends.asked_types.Goals as goal

pub returns-in-Some : goal.returns-in-Some
returns-in-Some c = asked_found c.args.policy.now c.args.criterion.now c.args.pattern.now c.requires.pattern c.values_found.result c.in-Some.pattern c.in-Some.is (rw c.symbols.ensures at c.values_found.ensures)

pub returns-in-None : goal.returns-in-None
returns-in-None c = asked_named c.args.policy.now c.args.criterion.now c.args.pattern.now c.requires.pattern c.named_types.result c.in-None.is (rw (c.as_bytes.ensures.value, c.as_str.ensures) at c.named_types.ensures)
