-- The lines of the bounds of types, as seinfo of SETools prints them.
use Rattle.std.specs.Prelude.{ℕ, ◌==◌, not, Bool, List, ◌++◌, map, codes}
use Rattle.std.specs.List.{filter}
use Rattle.pol_fields.specs.declared.TableKind.TheVariants.{Types}
use Rattle.pol_cursor.specs.References.{Placed, name_of}
use Rattle.pol_datums.specs.declared.TypeRec.{TypeRec}
use Rattle.pol_symbols.specs.declared.symbols.Symbols.{Symbols}
use Rattle.pol_symbols.specs.PolicySymbols.{name_in}
use Rattle.info_classes.specs.RecordOrder.{types_in_order}

-- 0 is no bound
abbrev pub is_bounded : Placed TypeRec → Bool
is_bounded t = not (t.value.bounds == 0)

-- typebounds PARENT CHILD; where the child may do no more than the parent
unfoldable pub bounds_line : Symbols → Placed TypeRec → List ℕ
bounds_line symbols t = codes "typebounds " ++ name_of (name_in symbols) Types t.value.bounds ++ codes " " ++ t.value.name ++ codes ";"

-- one for each bounded type or attribute, in the order of their names
unfoldable pub bounds_listing : Symbols → List (List ℕ)
bounds_listing symbols = map (bounds_line symbols) (filter is_bounded (types_in_order symbols))
