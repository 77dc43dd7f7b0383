use Rattle.std.proofs.Common.{◌≡◌}
use Rattle.std.specs.Prelude.{map, take}
use Rattle.pol_symtab.specs.Inner.Namings.{naming, naming_of}
use Rattle.pol_symtab.proofs.symbol_names.names_of.Given as goal

abbrev pub invariant-loop-number : goal.invariant-loop-number
invariant-loop-number g l = map naming l.names.items ≡ map (naming_of g.K.SymbolKind.name_of g.K.SymbolKind.is_primary g.K.SymbolKind.value_of) (take l.number l.records)
