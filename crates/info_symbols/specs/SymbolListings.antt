-- The listings of the records of symbol tables, as seinfo of SETools prints them: the lines of all in the order of the names, or
-- the one line of the record that a name finds.
use Rattle.std.specs.Prelude.{ℕ, Bool, Option, option_map, List, slice_get}
use Rattle.std.specs.List.{filter_map}
use Rattle.pol_fields.specs.declared.TableKind.{TableKind}
use Rattle.pol_symbols.specs.declared.symbols.Symbols.{Symbols}
use Rattle.info_lines.specs.NameOrder.{numbers_listed}
use Rattle.info_symbols.specs.SymbolLines.{symbol_lines}

-- the lines of these numbers
abbrev pub lines_at : List (List ℕ) → List ℕ → List (List ℕ)
lines_at lines numbers = filter_map (slice_get lines) numbers

-- the lines of the records that are listed, where the name finds one or none is given
unfoldable pub symbol_listing : Symbols → TableKind → Bool → Option (List ℕ) → Option (List (List ℕ))
symbol_listing symbols table expand name = option_map (lines_at (symbol_lines symbols table expand)) (numbers_listed symbols table name)
