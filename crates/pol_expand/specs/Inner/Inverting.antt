-- How the map is turned round: for each attribute the list of its types, and then their set.
use Rattle.std.specs.Prelude.{◌≡◌, map, ℕ, ◌+◌, ◌-◌, ◌≤◌, ◌<◌, Bool, true, ◌&&◌, ◌||◌, ◌==◌, nat_lt, Option, Some, None, is_some, List, [], ◌∷◌, ◌++◌, length, slice_index_or, if◌then◌else◌}
use Rattle.std.specs.List.{All, filter, list_any, range_with_len, count_by}
use Rattle.pol_bitmap.specs.declared.node.Node.{Node}
use Rattle.std.specs.Int.{bit_at}
use Rattle.pol_bitmap.specs.Nodes.{bits_of, has_bit, node_bits}
use Rattle.pol_expand.specs.Expansion.{row_of, expansion_of, IsDeclared}

-- a declared type whose row has a bit
abbrev pub has_attribute : List (List Node) → List Node → ℕ → ℕ → Bool
has_attribute rows types bit type = has_bit types type && has_bit (row_of rows type) bit

-- the bits that stand for attributes, of those of so many values, rising
abbrev pub attribute_bits : List Node → ℕ → List ℕ
attribute_bits attributes count = filter (λ bit. has_bit attributes (bit + 1)) (range_with_len 0 count)

-- whether a bit is one of some
abbrev pub is_one_of : List ℕ → ℕ → Bool
is_one_of bits bit = list_any (λ other. bit == other) bits

-- the list of each attribute, all types of whose row have come
pub record AreLists (rows : List (List Node)) (attributes types : List Node) (lists : List (List ℕ)) : Type 0 where
  pub count : length lists ≡ length rows
  pub each : (bit : ℕ) → bit < length lists → has_bit attributes (bit + 1) ≡ true → slice_index_or lists bit [] ≡ filter (has_attribute rows types bit) (range_with_len 1 (length rows))

-- ---- 64 types at a time

-- Each bit has a word, with a bit for each of the 64 types from one on. Whether the k-th of these is there.
abbrev pub word_has_type : List ℕ → ℕ → ℕ → Bool
word_has_type words bit k = bit_at (slice_index_or words bit 0) k == 1

-- The words gain a type, by its place among the 64, where a test of the bit says so.
pub record GainType (place : ℕ) (gains : ℕ → Bool) (old new : List ℕ) : Type 0 where
  pub count : length new ≡ length old
  pub each : (bit k : ℕ) → bit < length old → k < 64 → word_has_type new bit k ≡ (word_has_type old bit k || ((k == place) && gains bit))

-- the words after n of the 64 types from one on
pub record AreWords (rows : List (List Node)) (types : List Node) (start n : ℕ) (words : List ℕ) : Type 0 where
  pub count : length words ≡ length rows
  pub each : (bit k : ℕ) → bit < length words → k < 64 → word_has_type words bit k ≡ (nat_lt k n && has_attribute rows types bit (start + k))

-- the lists of the attributes have types below a number alone
abbrev pub HaveRoom : List ℕ → ℕ → List (List ℕ) → Type 0
HaveRoom bits start lists = (bit : ℕ) → is_one_of bits bit ≡ true → All (λ other. other < start) (slice_index_or lists bit [])

-- The list of each attribute gains the types of its word.
pub record GainNodes (bits : List ℕ) (start : ℕ) (words : List ℕ) (old new : List (List ℕ)) : Type 0 where
  pub count : length new ≡ length old
  pub each : (bit : ℕ) → is_one_of bits bit ≡ true → slice_index_or new bit [] ≡ slice_index_or old bit [] ++ node_bits (record { start = start; map = slice_index_or words bit 0 })

-- the lists after the types below a number
pub record AreListsBelow (rows : List (List Node)) (types : List Node) (bits : List ℕ) (n : ℕ) (lists : List (List ℕ)) : Type 0 where
  pub count : length lists ≡ length rows
  pub each : (bit : ℕ) → is_one_of bits bit ≡ true → slice_index_or lists bit [] ≡ filter (has_attribute rows types bit) (range_with_len 0 n)

-- ---- the sets

-- what a value expands to, by the sets of the attributes' types
abbrev pub listed : List Node → List (List Node) → ℕ → List ℕ
listed attributes sets value = if has_bit attributes value then bits_of (slice_index_or sets (value - 1) []) else value ∷ []

unfoldable pub listed_all : List Node → List (List Node) → List (List ℕ)
listed_all attributes sets = map (listed attributes sets) (range_with_len 1 (length sets))

-- the map turned round, as its users see it
pub record Inversion : Type 0 where
  pub expansions : List (List ℕ)
  pub attributes : List Node
  pub types : List Node
  pub count : ℕ

-- What holds of the sets: declared values are from 1 to their number, and attributes are no types.
pub record IsInversion (sets : List (List Node)) (attributes types : List Node) : Type 0 where
  pub few : length sets ≤ 65535
  pub declared : (value : ℕ) → IsDeclared attributes types value → (1 ≤ value) × (value ≤ length sets)
  pub apart : (value : ℕ) → has_bit attributes value ≡ true → has_bit types value ≡ true → ⊥

-- an attribute with one of the given types
abbrev pub touches : List (List ℕ) → List Node → List Node → ℕ → Bool
touches expansions attributes given value = has_bit attributes value && list_any (has_bit given) (expansion_of expansions value)

-- The numbers that were given so far, by value, and the sets of a pool.
pub record AreNumbers (expansions : List (List ℕ)) (numbers : List (Option ℕ)) (sets : List (List Node)) (kept count : ℕ) : Type 0 where
  pub all : length numbers ≡ count
  pub there : (k n : ℕ) → slice_index_or numbers k None ≡ Some n → n < length sets
  pub right : (k n : ℕ) → slice_index_or numbers k None ≡ Some n → bits_of (slice_index_or sets n []) ≡ slice_index_or expansions k []
  pub bound : length sets ≤ kept + count_by is_some numbers
  pub within : kept ≤ length sets
  pub fits : kept ≤ 4294900000
