use Rattle.std.proofs.Common.{sym, subst}
use Rattle.pol_symtab.specs.Inner.Namings.{its_name, its_value, is_its_primary}
use Rattle.pol_symtab.specs.Inner.TableIndex.{HaveDistinctNames, HaveDistinctValues}
use Rattle.pol_symtab.proofs.Namings.{names_distinct, values_distinct}
use Rattle.pol_symtab.proofs.symbol_table.SymbolTable.index.Goals as goal

pub new-requires-clause-names : goal.new-requires-clause-names
new-requires-clause-names g c =
    subst (HaveDistinctNames its_name) (sym c.in_ok-names.ensures.same)
    (names_distinct g.K.SymbolKind.name_of g.K.SymbolKind.is_primary g.K.SymbolKind.value_of c.args.records c.requires.names)

pub new-requires-clause-values : goal.new-requires-clause-values
new-requires-clause-values g c =
    subst (HaveDistinctValues is_its_primary its_value c.args.nprim) (sym c.in_ok-names.ensures.same)
    (values_distinct g.K.SymbolKind.name_of g.K.SymbolKind.is_primary g.K.SymbolKind.value_of c.args.records c.args.nprim c.requires.values)
