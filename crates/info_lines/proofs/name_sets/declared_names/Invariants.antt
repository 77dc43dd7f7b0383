use Rattle.std.proofs.Common.{◌≡◌, map, take}
use Rattle.std.specs.List.{filter_map}
use Rattle.pol_symbols.specs.PolicySymbols.{name_in}
use Rattle.info_lines.proofs.name_sets.declared_names.Given as goal

abbrev pub invariant-loop-value : goal.invariant-loop-value
invariant-loop-value l = map (λ name. name.now) l.names.items ≡ filter_map (name_in l.symbols l.table) (take l.value-index l.values)
