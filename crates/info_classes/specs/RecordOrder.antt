-- The records of the tables of classes and of types in the order of their names.
use Rattle.std.specs.Prelude.{ℕ, Option, option_map, List, slice_get}
use Rattle.std.specs.List.{filter_map}
use Rattle.pol_fields.specs.declared.TableKind.TheVariants.{Classes, Types}
use Rattle.pol_cursor.specs.References.{Placed}
use Rattle.pol_datums.specs.declared.TypeRec.{TypeRec}
use Rattle.pol_classes.specs.declared.ClassRec.{ClassRec}
use Rattle.pol_symbols.specs.declared.symbols.Symbols.{Symbols}
use Rattle.info_lines.specs.NameOrder.{primary_numbers, numbers_listed}

-- the records of these numbers
abbrev pub records_at : {A : Type 0} → List (Placed A) → List ℕ → List (Placed A)
records_at records numbers = filter_map (slice_get records) numbers

-- the types and attributes, without the aliases
abbrev pub types_in_order : Symbols → List (Placed TypeRec)
types_in_order symbols = records_at symbols.types.records (primary_numbers symbols Types)

-- the classes that are listed: all in the order of their names, or the one that a name finds, if it finds one
abbrev pub classes_listed : Symbols → Option (List ℕ) → Option (List (Placed ClassRec))
classes_listed symbols name = option_map (records_at symbols.classes.records) (numbers_listed symbols Classes name)
