-- The statements that declare types.
use Rattle.std.specs.Prelude.{ℕ, ◌-◌, ◌++◌, ◌&&◌, Bool, List, [], option_map, unwrap_or, codes, slice_get, nat_lt, nat_le, if◌then◌else◌}
use Rattle.std.specs.List.{filter, flat_map}
use Rattle.pol_fields.specs.declared.TableKind.TheVariants.{Types}
use Rattle.pol_bitmap.specs.declared.node.Node.{Node}
use Rattle.pol_bitmap.specs.Nodes.{bits_of}
use Rattle.pol_datums.specs.declared.TypeRec.{TypeRec}
use Rattle.pol_datums.specs.declared.Flavour.TheVariants.{Attribute}
use Rattle.pol_symbols.specs.declared.symbols.Symbols.{Symbols}
use Rattle.pol_symbols.specs.PolicySymbols.{flavour_in}
use Rattle.pol_file.specs.declared.parts.Parts.{Parts}
use Rattle.info_lines.specs.NameSets.{names_of_values, values_of_bits}
use Rattle.pol_expand.specs.Flavours.{is_flavour}
use Rattle.info_symbols.specs.Aliases.{alias_names, alias_text}

-- the table of types may declare the value
abbrev pub may_be_type : Symbols → ℕ → Bool
may_be_type symbols value = nat_lt 0 value && nat_le value symbols.types.nprim

-- the row of the type map for a type value, which has one for each from 1 on
abbrev pub type_row : Parts → ℕ → List Node
type_row parts value = if may_be_type parts.symbols value then unwrap_or (option_map (λ row. row.value) (slice_get parts.labels.type_rows (value - 1))) [] else []

-- a value is declared as an attribute
abbrev pub is_attribute : Symbols → ℕ → Bool
is_attribute symbols value = is_flavour Attribute (flavour_in symbols value)

-- the attributes among the values of the row's bits (libsepol's type_attr_map, where bit v - 1 stands for the value v)
abbrev pub attributes_of_type : Parts → ℕ → List ℕ
attributes_of_type parts value = filter (is_attribute parts.symbols) (values_of_bits (bits_of (type_row parts value)))

-- the names of the attributes of a type, in the order of their bytes
abbrev pub attribute_names : Parts → ℕ → List (List ℕ)
attribute_names parts value = names_of_values parts.symbols Types (attributes_of_type parts value)

abbrev pub attributes_text : List (List ℕ) → List ℕ
attributes_text names = flat_map (λ name. codes ", " ++ name) names

-- type NAME alias ALIASES, ATTRIBUTE, ATTRIBUTE;
unfoldable pub type_statement : Parts → TypeRec → List ℕ
type_statement parts t =
    codes "type " ++ t.name ++ alias_text (alias_names parts.symbols Types t.value) ++ attributes_text (attribute_names parts t.value) ++ codes ";"
