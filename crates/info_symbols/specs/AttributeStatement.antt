-- The statements of attributes with their types, as seinfo of SETools prints them expanded.
use Rattle.std.specs.Prelude.{◌≡◌, ℕ, ◌<◌, ◌++◌, ◌∷◌, [], true, Option, Some, option_map, List, length, map, codes, slice_get}
use Rattle.std.specs.Option.{option_and_then}
use Rattle.pol_fields.specs.declared.TableKind.TheVariants.{Types}
use Rattle.pol_cursor.specs.References.{Placed}
use Rattle.pol_datums.specs.declared.TypeRec.{TypeRec}
use Rattle.pol_texts.specs.SetTexts.{set_text}
use Rattle.pol_file.specs.declared.parts.Parts.{Parts}
use Rattle.info_lines.specs.NameSets.{names_of_values}
use Rattle.info_symbols.specs.declared.type_sets.TypeSet.TheVariants.{Attributes}
use Rattle.info_lines.specs.NameOrder.{number_named}
use Rattle.info_symbols.specs.SymbolListings.{lines_at}
use Rattle.info_symbols.specs.TypeListings.{set_numbers, number_if_in}
use Rattle.pol_datums.specs.declared.Flavour.TheVariants.{Attribute}
use Rattle.pol_expand.specs.PolicyMap.{has_flavour, expand}

-- the types in it: none, or their set
abbrev pub types_text : List (List ℕ) → List ℕ
types_text [] = []
types_text (first ∷ types) = codes " " ++ set_text (first ∷ types)

-- the statement of an attribute of that name, whose types have these names
abbrev pub statement_text : List ℕ → List (List ℕ) → List ℕ
statement_text name types = codes "attribute " ++ name ++ types_text types ++ codes ";"

-- the statement of a record, with the names of the types that its value expands to
unfoldable pub attribute_statement : Parts → TypeRec → List ℕ
attribute_statement parts t = statement_text t.name (names_of_values parts.symbols Types (expand parts t.value))

-- the statements of all records, in the order of the table's list
abbrev pub statement_lines : Parts → List (List ℕ)
statement_lines parts = map (λ t. attribute_statement parts t.value) parts.symbols.types.records

-- the statements of the primary records of attributes, in the order of their names
unfoldable pub attribute_statement_listing : Parts → List (List ℕ)
attribute_statement_listing parts = lines_at (statement_lines parts) (set_numbers parts Attributes)

-- the statement of the attribute that a name finds
unfoldable pub attribute_statement_listing_named : Parts → List ℕ → Option (List (List ℕ))
attribute_statement_listing_named parts name =
    option_map (λ line. line ∷ []) (option_and_then (slice_get (statement_lines parts)) (number_if_in parts Attributes (number_named parts.symbols Types name)))

-- the record of a number declares an attribute
pub record IsAttribute (parts : Parts) (number : ℕ) : Type 0 where
  pub within : number < length parts.symbols.types.records
  pub declared : (t : Placed TypeRec) → slice_get parts.symbols.types.records number ≡ Some t → has_flavour parts.symbols Attribute t.value.value ≡ true
