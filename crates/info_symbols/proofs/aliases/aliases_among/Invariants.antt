use Rattle.std.proofs.Common.{take}
use Rattle.info_symbols.specs.Inner.AliasLists.{AreListed}
use Rattle.info_symbols.proofs.aliases.aliases_among.Given as goal

abbrev pub invariant-loop-number : goal.invariant-loop-number
invariant-loop-number g l = AreListed g.K.SymbolKind.name_of g.K.SymbolKind.is_primary g.K.SymbolKind.value_of (take l.number l.table.records) l.aliases
