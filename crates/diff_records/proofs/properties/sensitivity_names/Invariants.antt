use Rattle.std.proofs.Common.{◌≡◌, ◌≤◌, ◌-◌, map}
use Rattle.std.specs.List.{filter_map, range_with_len}
use Rattle.pol_fields.specs.declared.TableKind.TheVariants.{Levels}
use Rattle.pol_symbols.specs.PolicySymbols.{name_in, prims_in}
use Rattle.diff_records.proofs.properties.sensitivity_names.Given as goal

abbrev pub invariant-values : goal.invariant-values
invariant-values l =
    (map (λ name. name.now) l.names.items ≡ filter_map (name_in l.symbols Levels) (range_with_len 1 l.value))
    × (l.value ≤ prims_in l.symbols Levels)

abbrev pub decreases-values : goal.decreases-values
decreases-values l = prims_in l.symbols Levels - l.value
