use Rattle.named_values.proofs.Patterns.{set_found}
use Rattle.named_values.proofs.found.values_found.Goals as goal

pub returns : goal.returns
returns c = set_found c.args.symbols.now c.args.table c.args.pattern.now c.in_ok-values.values.items c.from_values.result c.in_ok-values.ensures c.from_values.ensures.bits
