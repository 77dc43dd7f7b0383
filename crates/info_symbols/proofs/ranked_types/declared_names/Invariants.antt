use Rattle.std.proofs.Common.{◌≡◌, map, take}
use Rattle.std.specs.List.{filter_map}
use Rattle.pol_fields.specs.declared.TableKind.TheVariants.{Types}
use Rattle.pol_symbols.specs.PolicySymbols.{name_in}
use Rattle.info_symbols.proofs.ranked_types.declared_names.Given as goal

abbrev pub invariant-loop-t : goal.invariant-loop-t
invariant-loop-t l = map (λ name. name.now) l.names.items ≡ filter_map (λ t. name_in l.symbols Types t.value) (take l.t-index l.types)
