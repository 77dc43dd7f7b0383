use Rattle.std.proofs.Common.{◌∙◌}
use Rattle.rule_query.proofs.MeantValues.{meant_found, meant_named}
use Rattle.rule_query.proofs.ends.meant.Goals as goal

pub returns-in-Some : goal.returns-in-Some
returns-in-Some c = meant_found c.args.symbols.now c.args.table c.args.criterion.now c.args.pattern.now c.requires c.values_found.result _ c.in-Some.is c.values_found.ensures

pub returns-in-None : goal.returns-in-None
returns-in-None c = meant_named c.args.symbols.now c.args.table c.args.criterion.now c.args.pattern.now c.requires c.values_named.result c.as_bytes.result.now (c.as_bytes.ensures.value ∙ c.as_str.ensures) c.in-None.is c.values_named.ensures
