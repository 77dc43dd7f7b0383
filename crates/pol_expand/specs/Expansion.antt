-- The expansion of types and attributes, and the numbers of the sets that a map keeps.
use Rattle.std.specs.Prelude.{◌≡◌, map, ◌↔◌, ◌⊎◌, ℕ, ◌-◌, ◌≤◌, Bool, ◌&&◌, List, [], ◌∷◌, length, slice_index_or, Contains, if◌then◌else◌}
use Rattle.std.specs.List.{All, filter, range_with_len}
use Rattle.pol_bitmap.specs.declared.node.Node.{Node}
use Rattle.pol_bitmap.specs.Nodes.{bits_of, has_bit}
use Rattle.pol_bitmap.specs.Sets.{ShareBit}
use Rattle.pol_bitmap.specs.Kept.{IsNumberOf}

-- What a value expands to, rising, by tests of attributes and types and by the rows of the first n values: an attribute to the
-- types whose row has its bit, where bit v - 1 stands for the value v (libsepol's type_attr_map, turned round), and any other
-- value to itself (SETools' expand()).
unfoldable pub expansion : (ℕ → Bool) → (ℕ → Bool) → (ℕ → List Node) → ℕ → ℕ → List ℕ
expansion is_attribute is_type row n value =
    if is_attribute value then filter (λ type. is_type type && has_bit (row type) (value - 1)) (range_with_len 1 n) else value ∷ []

-- ---- by rows, and by sets of the declared values

-- the row of a type in the map of types to attributes, which has one row a value, from 1 on
abbrev pub row_of : List (List Node) → ℕ → List Node
row_of rows type = slice_index_or rows (type - 1) []

abbrev pub expand_by : List (List Node) → List Node → List Node → ℕ → List ℕ
expand_by rows attributes types = expansion (has_bit attributes) (has_bit types) (row_of rows) (length rows)

-- what each value expands to, by value from 1 on
unfoldable pub expand_all : List (List Node) → List Node → List Node → List (List ℕ)
expand_all rows attributes types = map (expand_by rows attributes types) (range_with_len 1 (length rows))

-- what a value expands to, by such a list
abbrev pub expansion_of : List (List ℕ) → ℕ → List ℕ
expansion_of expansions value = slice_index_or expansions (value - 1) []

-- The map that a caller sees: what each value expands to, the values that are declared, the sets by number, and how many of
-- them were kept by request.
pub record Expansions : Type 0 where
  pub expansions : List (List ℕ)
  pub attributes : List Node
  pub types : List Node
  pub sets : List (List Node)
  pub kept : ℕ

-- a declared value
abbrev pub IsDeclared : List Node → List Node → ℕ → Type 0
IsDeclared attributes types value = Contains (bits_of attributes) value ⊎ Contains (bits_of types) value

-- each value has a row
abbrev pub HaveRows : List (List Node) → List Node → Type 0
HaveRows rows values = All (λ value. (1 ≤ value) × (value ≤ length rows)) (bits_of values)

-- A number is that of a set with these bits: of the one that is there already, or else of a new one after all others.
pub record IsNumberOfBits (old new : List (List Node)) (bits : List ℕ) (n : ℕ) : Type 0 where
  pub number : IsNumberOf old new (slice_index_or new n []) n
  pub right : bits_of (slice_index_or new n []) ≡ bits

-- the declared values whose expansion shares a type with given ones
pub record IsTouching (expansions : List (List ℕ)) (attributes types given : List Node) (values : List ℕ) : Type 0 where
  pub each : (value : ℕ) → Contains values value ↔ (IsDeclared attributes types value × ShareBit (expansion_of expansions value) (bits_of given))
