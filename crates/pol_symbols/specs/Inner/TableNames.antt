-- What the records of a table name. Nothing here is promised to a caller.
use Rattle.pol_fields.specs.declared.TableKind.{TableKind}
use Rattle.pol_symtab.specs.SymbolTables.{Table}
use Rattle.pol_symtab.specs.Inner.Namings.{Naming, namings_of}
use Rattle.pol_symbols.specs.declared.symbols.Symbols.{Symbols}
use Rattle.pol_symbols.specs.PolicySymbols.{of_table}

abbrev pub names_in : Symbols → TableKind → Table Naming
names_in symbols table = of_table (λ A name_of is_primary value_of t. namings_of name_of is_primary value_of t) symbols table
