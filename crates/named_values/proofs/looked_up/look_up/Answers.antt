use Rattle.std.proofs.Common.{Bor, List, ℕ}
use Rattle.pol_symbols.specs.PolicySymbols.{value_in}
use Rattle.named_values.proofs.LookedUp.{looked_more}
use Rattle.named_values.proofs.looked_up.look_up.Goals as goal

pub loop-name-preserved : goal.loop-name-preserved
loop-name-preserved c = looked_more (λ (name : Bor (List ℕ)). value_in c.args.symbols.now c.args.table name.now) c.args.names.now c.loop-name.name-index _ c.loop-name.values.items c.push_some.new.values.items c.by_name.result c.loop-name-test.true c.loop-name.invariant c.in_ok-push_some.ensures c.by_name.ensures
