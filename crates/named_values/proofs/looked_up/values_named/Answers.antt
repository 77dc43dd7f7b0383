use Rattle.std.proofs.Common.{Bor, List, ℕ}
use Rattle.pol_symbols.specs.PolicySymbols.{value_in}
use Rattle.named_values.proofs.LookedUp.{set_named}
use Rattle.named_values.proofs.looked_up.values_named.Goals as goal

pub returns : goal.returns
returns c = set_named (λ (name : Bor (List ℕ)). name.now) (value_in c.args.symbols.now c.args.table) c.args.names.now c.in_ok-values.values.items c.from_values.result c.in_ok-values.ensures c.from_values.ensures.bits
