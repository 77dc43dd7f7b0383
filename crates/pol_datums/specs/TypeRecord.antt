-- Record 9: a type, an attribute or an alias of a type (libsepol's type_read).
use Rattle.std.specs.Prelude.{ℕ, ◌+◌, ◌≤◌, ◌<◌, ◌^◌, ◌%◌, ◌/◌, ◌==◌, Bool, ◌||◌, Option, Some, None, List, ◌++◌, length, take, drop, if◌then◌else◌}
use Rattle.pol_fields.specs.declared.limits.TheConstants.{MAX_POLICY_BYTES}
use Rattle.pol_fields.specs.declared.fault.Cause.{Cause}
use Rattle.pol_fields.specs.declared.table_kind.TableKind.TheVariants.{Types}
use Rattle.pol_fields.specs.declared.fields.TheConstants.{TYPE_LEN, TYPE_VALUE, TYPE_PROPERTIES, TYPE_BOUNDS, TYPE_NAME}
use Rattle.pol_cursor.specs.Outcome.{Reader, ◌>>=◌, done}
use Rattle.pol_cursor.specs.Parts.{num, number_if}
use Rattle.pol_cursor.specs.References.{Placed, Reference}
use Rattle.pol_cursor.specs.Spelling.{bytes_of}
use Rattle.pol_symtab.specs.Claims.{Claims}
use Rattle.pol_symtab.specs.SymbolFields.{primary_value_test, symbol_length_at, symbol_name_at}
use Rattle.pol_datums.specs.declared.flavour.Flavour.{Flavour}
use Rattle.pol_datums.specs.declared.flavour.Flavour.TheVariants.{Plain, Attribute}
use Rattle.pol_datums.specs.declared.type_rec.TypeRec.{TypeRec}
use Rattle.pol_datums.specs.SymbolValues.{value_at, bounds_at}
use Rattle.pol_datums.specs.SymbolReferences.{alias_reference, bounds_reference}

-- ---- properties

-- bit 0x2 (libsepol's TYPEDATUM_PROPERTY_ATTRIBUTE)
abbrev pub is_attribute : ℕ → Bool
is_attribute properties = properties / 2 % 2 == 1

-- A record with bit 0x1 (TYPEDATUM_PROPERTY_PRIMARY) or with that one is primary. One with neither is an alias.
abbrev pub is_primary_type : ℕ → Bool
is_primary_type properties = (properties % 2 == 1) || is_attribute properties

-- what a primary record is
abbrev pub flavour_of : ℕ → Option Flavour
flavour_of properties = if is_attribute properties then Some Attribute else (if properties % 2 == 1 then Some Plain else None)

-- ---- reading and spelling

abbrev pub properties_test : Claims → ℕ → ℕ → Option Cause
properties_test claims value properties = primary_value_test claims (is_primary_type properties) value

unfoldable pub type_at : Claims → ℕ → Reader TypeRec
type_at claims nprim = do
  len ← symbol_length_at TYPE_LEN
  value ← value_at TYPE_VALUE nprim
  properties ← number_if TYPE_PROPERTIES 4 (properties_test claims value)
  bounds ← bounds_at TYPE_BOUNDS
  name ← symbol_name_at TYPE_NAME claims len
  done (record { value = value; properties = properties; bounds = bounds; name = name })

abbrev pub spell_type : TypeRec → List ℕ
spell_type t = bytes_of 4 (length t.name) ++ bytes_of 4 t.value ++ bytes_of 4 t.properties ++ bytes_of 4 t.bounds ++ t.name

-- the length and the numbers of a type fit their fields
pub record TypeFits (t : TypeRec) : Type 0 where
  pub len : length t.name < 2 ^ 32
  pub value : t.value < 2 ^ 32
  pub properties : t.properties < 2 ^ 32
  pub bounds : t.bounds < 2 ^ 32

-- ---- the type that stands at a place

abbrev pub type_in : List ℕ → ℕ → TypeRec
type_in bytes place = record {
  value = num bytes (place + 4) 4;
  properties = num bytes (place + 8) 4;
  bounds = num bytes (place + 12) 4;
  name = take (num bytes place 4) (drop (place + 16) bytes);
}

-- a type stands there, in a buffer of a policy's size
abbrev pub HasType : List ℕ → ℕ → Type 0
HasType bytes place = (place + 16 + num bytes place 4 ≤ length bytes) × (length bytes ≤ MAX_POLICY_BYTES)

-- ---- what it names

-- the type that an alias stands for, and then the type that bounds it
abbrev pub type_references : Placed TypeRec → List Reference
type_references t =
    alias_reference (is_primary_type t.value.properties) (record { place = t.place + 4; field = TYPE_VALUE; table = Types; value = t.value.value })
    ++ bounds_reference (record { place = t.place + 12; field = TYPE_BOUNDS; table = Types; value = t.value.bounds })
