-- How the code finds a name or a value that is taken. Nothing here is promised to a caller.
use Rattle.std.specs.Prelude.{◌≡◌, ℕ, ◌*◌, ◌<◌, ◌≤◌, ◌&&◌, ◌||◌, Bool, true, false, List, nat_eq, nat_lt, fold, bit_and}
use Rattle.std.specs.List.{list_any}
use Rattle.std.specs.Str.{bytes_eq}
use Rattle.std.specs.Int.{rotate_left, w32}
use Rattle.std.specs.Int.Bits.{bit_xor}
use Rattle.pol_cursor.specs.Inner.BitPlaces.{has_bit_of}
use Rattle.pol_symtab.specs.SymbolTables.{is_below}

-- The bits that are set are those of the values.
abbrev pub AreMarked : List ℕ → List ℕ → Type 0
AreMarked bits values = (value : ℕ) → has_bit_of bits value ≡ list_any (nat_eq value) values

-- ---- the order in which libsepol writes a table: slot by slot of its hash table (hashtab_map), and in each slot the names rise by
-- their bytes (hashtab_insert). Any function of a name would do; that of libsepol's hash passes the tables that it wrote.

-- its hash with one more byte (symhash)
abbrev pub hashed : ℕ → ℕ → ℕ
hashed hash byte = bit_xor (rotate_left w32 hash 4) byte

-- the slot of a name, in a table whose slots are numbered by the bits of the mask
unfoldable pub slot_of : ℕ → List ℕ → ℕ
slot_of mask name = bit_and (fold hashed 0 name) mask

-- a name of a slot stands behind the last one in that order
abbrev pub is_behind : ℕ → List ℕ → ℕ → List ℕ → Bool
is_behind last_slot last slot name = nat_lt last_slot slot || (nat_eq slot last_slot && is_below last name)

-- none of the names stands behind the last one
abbrev pub NoneBehind : ℕ → ℕ → List ℕ → List (List ℕ) → Type 0
NoneBehind mask last_slot last names = (name : List ℕ) → is_behind last_slot last (slot_of mask name) name ≡ true → list_any (bytes_eq name) names ≡ false

-- The names are those of the set.
abbrev pub AreInSet : List (List ℕ) → List (List ℕ) → Type 0
AreInSet names set = (name : List ℕ) → list_any (bytes_eq name) set ≡ list_any (bytes_eq name) names

-- how a name is found: by the last one while all rose, and in a set from then on
abbrev pub AreFound : Bool → ℕ → ℕ → List ℕ → List (List ℕ) → List (List ℕ) → Type 0
AreFound true mask last_slot last names set = NoneBehind mask last_slot last names
AreFound false mask last_slot last names set = AreInSet names set

-- ---- values with the room for more, which need no memory

pub record Values : Type 0 where
  pub list : List ℕ
  pub spare : ℕ
  pub words : ℕ

abbrev pub HasRoom : Values → ℕ → Type 0
HasRoom values value = (1 ≤ values.spare) × (value < 64 * values.words)
