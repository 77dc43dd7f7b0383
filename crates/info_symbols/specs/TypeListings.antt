-- The listings of types, attributes and permissive types, as seinfo of SETools prints them.
use Rattle.std.specs.Prelude.{ℕ, ◌++◌, ◌∷◌, [], ◌&&◌, Bool, true, false, Option, Some, None, option_map, List, map, codes, slice_get, nat_eq, if◌then◌else◌}
use Rattle.std.specs.List.{filter, list_any}
use Rattle.pol_fields.specs.declared.TableKind.TheVariants.{Types}
use Rattle.pol_cursor.specs.References.{Placed}
use Rattle.pol_bitmap.specs.Nodes.{bits_of}
use Rattle.pol_datums.specs.declared.TypeRec.{TypeRec}
use Rattle.pol_datums.specs.declared.Flavour.TheVariants.{Plain, Attribute}
use Rattle.pol_datums.specs.TypeRecord.{flavour_of}
use Rattle.pol_file.specs.declared.parts.Parts.{Parts}
use Rattle.info_symbols.specs.declared.type_sets.TypeSet.{TypeSet}
use Rattle.info_symbols.specs.declared.type_sets.TypeSet.TheVariants.{PlainTypes, Attributes, PermissiveTypes}
use Rattle.info_lines.specs.NameOrder.{primary_numbers, number_named}
use Rattle.pol_expand.specs.Flavours.{is_flavour}
use Rattle.info_symbols.specs.TypeStatements.{type_statement}
use Rattle.info_symbols.specs.SymbolListings.{lines_at}

-- bit t of the permissive types stands for the type value t
abbrev pub is_permissive : Parts → ℕ → Bool
is_permissive parts value = list_any (nat_eq value) (bits_of parts.front.permissive)

-- a record is in the set: an attribute is no type, and is never permissive
abbrev pub is_in : Parts → TypeSet → TypeRec → Bool
is_in parts PlainTypes t = is_flavour Plain (flavour_of t.properties)
is_in parts Attributes t = is_flavour Attribute (flavour_of t.properties)
is_in parts PermissiveTypes t = is_flavour Plain (flavour_of t.properties) && is_permissive parts t.value

-- the record of a number is in the set
abbrev pub found_in : Parts → TypeSet → Option (Placed TypeRec) → Bool
found_in parts set None = false
found_in parts set (Some t) = is_in parts set t.value

abbrev pub number_in : Parts → TypeSet → ℕ → Bool
number_in parts set number = found_in parts set (slice_get parts.symbols.types.records number)

-- the statement that makes a type permissive
abbrev pub permissive_line : List ℕ → List ℕ
permissive_line name = codes "permissive " ++ name ++ codes ";"

-- the name, and expanded the statement of a type or a permissive one. Attributes are expanded elsewhere.
unfoldable pub type_line : Parts → TypeSet → Bool → TypeRec → List ℕ
type_line parts PlainTypes true t = type_statement parts t
type_line parts PermissiveTypes true t = permissive_line t.name
type_line parts set expand t = t.name

-- the lines are statements that declare types
abbrev pub shows_types : TypeSet → Bool → Bool
shows_types PlainTypes true = true
shows_types set expand = false

-- the lines of all records, in the order of the table's list
abbrev pub type_lines : Parts → TypeSet → Bool → List (List ℕ)
type_lines parts set expand = map (λ t. type_line parts set expand t.value) parts.symbols.types.records

-- ---- the numbers that are listed

-- the primary records of the set, in the order of their names
abbrev pub set_numbers : Parts → TypeSet → List ℕ
set_numbers parts set = filter (number_in parts set) (primary_numbers parts.symbols Types)

-- one number, where its record is in the set
abbrev pub number_if_in : Parts → TypeSet → Option ℕ → Option ℕ
number_if_in parts set None = None
number_if_in parts set (Some number) = if number_in parts set number then Some number else None

-- the set in which a name is looked up: each type is known where permissive types are listed, and is listed where it is permissive
abbrev pub searched_set : TypeSet → TypeSet
searched_set PlainTypes = PlainTypes
searched_set Attributes = Attributes
searched_set PermissiveTypes = PlainTypes

-- the numbers of all of the set, or of the record that a name finds, where the name is known
unfoldable pub set_numbers_listed : Parts → TypeSet → Option (List ℕ) → Option (List ℕ)
set_numbers_listed parts set None = Some (set_numbers parts set)
set_numbers_listed parts set (Some name) =
    option_map (λ number. filter (number_in parts set) (number ∷ [])) (number_if_in parts (searched_set set) (number_named parts.symbols Types name))

-- ---- the listings

-- the lines of a set, or of what a name finds in it, where the name is known
unfoldable pub set_listing : Parts → TypeSet → Bool → Option (List ℕ) → Option (List (List ℕ))
set_listing parts set expand name = option_map (lines_at (type_lines parts set expand)) (set_numbers_listed parts set name)
