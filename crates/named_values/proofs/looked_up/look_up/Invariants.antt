use Rattle.std.proofs.Common.{◌≡◌, take}
use Rattle.std.specs.List.{filter_map}
use Rattle.pol_symbols.specs.PolicySymbols.{value_in}
use Rattle.named_values.proofs.looked_up.look_up.Given as goal

abbrev pub invariant-loop-name : goal.invariant-loop-name
invariant-loop-name l = l.values.items ≡ filter_map (λ name. value_in l.symbols l.table name.now) (take l.name-index l.names)
