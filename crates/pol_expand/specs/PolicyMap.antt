-- What the values of a policy's types and attributes expand to, by its map of types to attributes.
use Rattle.std.specs.Prelude.{◌≡◌, ℕ, ◌-◌, Bool, Option, Some, None, List, [], map, slice_get}
use Rattle.std.specs.List.{filter, range_with_len}
use Rattle.pol_cursor.specs.References.{Placed}
use Rattle.pol_bitmap.specs.declared.Node.{Node}
use Rattle.pol_bitmap.specs.Nodes.{bits_of}
use Rattle.pol_datums.specs.declared.Flavour.{Flavour}
use Rattle.pol_datums.specs.declared.Flavour.TheVariants.{Plain, Attribute}
use Rattle.pol_symbols.specs.declared.symbols.Symbols.{Symbols}
use Rattle.pol_symbols.specs.PolicySymbols.{flavour_in}
use Rattle.pol_file.specs.declared.parts.Parts.{Parts}
use Rattle.pol_expand.specs.Expansion.{Expansions, IsDeclared, expansion, expansion_of}
use Rattle.pol_expand.specs.Flavours.{is_flavour}

-- ---- rows

abbrev pub row_found : Option (Placed (List Node)) → List Node
row_found None = []
row_found (Some row) = row.value

-- the row of a type value
abbrev pub row_in : Parts → ℕ → List Node
row_in parts value = row_found (slice_get parts.labels.type_rows (value - 1))

-- the rows of all type values, that of the value 1 first
unfoldable pub rows_of : Parts → List (List Node)
rows_of parts = map (row_in parts) (range_with_len 1 parts.symbols.types.nprim)

-- ---- values

-- a type value is declared with that flavour
abbrev pub has_flavour : Symbols → Flavour → ℕ → Bool
has_flavour symbols flavour value = is_flavour flavour (flavour_in symbols value)

-- the type values that are, rising
unfoldable pub values_of_flavour : Symbols → Flavour → List ℕ
values_of_flavour symbols flavour = filter (has_flavour symbols flavour) (range_with_len 1 symbols.types.nprim)

-- ---- expansion

-- What a type value of a policy expands to, rising: an attribute to the declared types, no attributes, whose rows have its bit,
-- and any other value to itself.
unfoldable pub expand : Parts → ℕ → List ℕ
expand parts = expansion (has_flavour parts.symbols Attribute) (has_flavour parts.symbols Plain) (row_in parts) parts.symbols.types.nprim

-- The map is that of a policy: its attributes and types are those that the policy declares, and each expands as it does there.
pub record IsPolicyMap (parts : Parts) (map : Expansions) : Type 0 where
  pub attributes : bits_of map.attributes ≡ values_of_flavour parts.symbols Attribute
  pub types : bits_of map.types ≡ values_of_flavour parts.symbols Plain
  pub expands : (value : ℕ) → IsDeclared map.attributes map.types value → expansion_of map.expansions value ≡ expand parts value

-- no set was made or kept
pub record HasNoSets (map : Expansions) : Type 0 where
  pub sets : map.sets ≡ []
  pub kept : map.kept ≡ 0
