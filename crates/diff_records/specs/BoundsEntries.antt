-- The entries of bounds of types: the parent of a bounded type or attribute.
use Rattle.std.specs.Prelude.{List, [], ◌∷◌, ◌++◌, map, codes}
use Rattle.std.specs.List.{filter}
use Rattle.pol_fields.specs.declared.TableKind.TheVariants.{Types}
use Rattle.pol_cursor.specs.References.{Placed}
use Rattle.pol_file.specs.declared.parts.Parts.{Parts}
use Rattle.pol_datums.specs.declared.TypeRec.{TypeRec}
use Rattle.pol_symbols.specs.declared.symbols.Symbols.{Symbols}
use Rattle.info_classes.specs.RecordOrder.{types_in_order}
use Rattle.info_classes.specs.BoundsLines.{bounds_line, is_bounded}
use Rattle.diff_entries.specs.Entries.{Entry}
use Rattle.diff_parts.specs.EntryParts.{name_or_none, word_part}

-- The key is the child, and the parent is what is compared.
unfoldable pub bounds_entry : Symbols → Placed TypeRec → Entry
bounds_entry symbols child = record {
  key = child.value.name ∷ [];
  parts = word_part (name_or_none symbols Types child.value.bounds) ∷ [];
  statement = bounds_line symbols child;
  head = codes "typebounds " ++ child.value.name;
}

-- the entries of all bounded types and attributes, in the order of their names
unfoldable pub bounds_entries : Parts → List Entry
bounds_entries policy = map (bounds_entry policy.symbols) (filter is_bounded (types_in_order policy.symbols))
