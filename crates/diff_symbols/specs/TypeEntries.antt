-- The entries of types, attributes and permissive types: each is known by its name, and is stated as the listings state it.
use Rattle.std.specs.Prelude.{ℕ, true, List, [], ◌∷◌, ◌++◌, codes, get_or, map}
use Rattle.pol_fields.specs.declared.TableKind.TheVariants.{Types}
use Rattle.pol_file.specs.declared.Parts.{Parts}
use Rattle.pol_expand.specs.PolicyMap.{expand}
use Rattle.info_lines.specs.NameSets.{names_of_values}
use Rattle.info_symbols.specs.declared.TypeSet.TheVariants.{PlainTypes, Attributes, PermissiveTypes}
use Rattle.info_symbols.specs.AttributeStatement.{statement_lines}
use Rattle.info_symbols.specs.TypeListings.{set_numbers, type_lines}
use Rattle.info_symbols.specs.TypeStatements.{attribute_names}
use Rattle.diff_entries.specs.Entries.{Entry}
use Rattle.diff_entries.specs.declared.Label.TheVariants.{Unnamed, Alias, Attributes as AttributesLabel}
use Rattle.diff_parts.specs.EntryParts.{names_part}
use Rattle.diff_symbols.specs.SymbolEntries.{aliases_at, name_at, value_at}

-- ---- types

-- the aliases and the attributes of a type are compared
unfoldable pub type_entry : Parts → ℕ → Entry
type_entry policy number = record {
  key = name_at policy.symbols Types number ∷ [];
  parts = names_part Alias (aliases_at policy.symbols Types number) ∷ names_part AttributesLabel (attribute_names policy (value_at policy.symbols Types number)) ∷ [];
  statement = get_or (type_lines policy PlainTypes true) number [];
  head = codes "type " ++ name_at policy.symbols Types number;
}

abbrev pub type_entries : Parts → List Entry
type_entries policy = map (type_entry policy) (set_numbers policy PlainTypes)

-- ---- attributes

-- the names of the types that the attribute of a number expands to
abbrev pub types_with : Parts → ℕ → List (List ℕ)
types_with policy number = names_of_values policy.symbols Types (expand policy (value_at policy.symbols Types number))

-- they are compared
unfoldable pub attribute_entry : Parts → ℕ → Entry
attribute_entry policy number = record {
  key = name_at policy.symbols Types number ∷ [];
  parts = names_part Unnamed (types_with policy number) ∷ [];
  statement = get_or (statement_lines policy) number [];
  head = codes "attribute " ++ name_at policy.symbols Types number;
}

abbrev pub attribute_entries : Parts → List Entry
attribute_entries policy = map (attribute_entry policy) (set_numbers policy Attributes)

-- ---- permissive types

-- a type is permissive or not
unfoldable pub permissive_entry : Parts → ℕ → Entry
permissive_entry policy number = record {
  key = name_at policy.symbols Types number ∷ [];
  parts = [];
  statement = get_or (type_lines policy PermissiveTypes true) number [];
  head = codes "permissive " ++ name_at policy.symbols Types number;
}

abbrev pub permissive_entries : Parts → List Entry
permissive_entries policy = map (permissive_entry policy) (set_numbers policy PermissiveTypes)
