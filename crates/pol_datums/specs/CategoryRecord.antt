-- Record 13: a category, or an alias of one (libsepol's cat_read).
use Rattle.std.specs.Prelude.{ℕ, ◌+◌, ◌≤◌, ◌<◌, ◌^◌, Option, Some, List, ◌++◌, length, take, drop, nat_le, if◌then◌else◌}
use Rattle.pol_fields.specs.declared.limits.TheConstants.{MAX_POLICY_BYTES}
use Rattle.pol_fields.specs.declared.fault.Cause.{Cause}
use Rattle.pol_fields.specs.declared.fault.Cause.TheVariants.{BadFlag}
use Rattle.pol_fields.specs.declared.table_kind.TableKind.TheVariants.{Categories}
use Rattle.pol_fields.specs.declared.fields.TheConstants.{CATEGORY_LEN, CATEGORY_VALUE, CATEGORY_ISALIAS, CATEGORY_NAME}
use Rattle.pol_cursor.specs.Outcome.{Reader, ◌>>=◌, done}
use Rattle.pol_cursor.specs.Parts.{num, number_if}
use Rattle.pol_cursor.specs.References.{Placed, Reference}
use Rattle.pol_cursor.specs.Spelling.{bytes_of}
use Rattle.pol_symtab.specs.Claims.{Claims}
use Rattle.pol_symtab.specs.SymbolFields.{primary_value_test, symbol_length_at, symbol_name_at}
use Rattle.pol_datums.specs.declared.category_rec.CategoryRec.{CategoryRec}
use Rattle.pol_datums.specs.Flags.{is_primary_flag}
use Rattle.pol_datums.specs.SymbolValues.{value_at}
use Rattle.pol_datums.specs.SymbolReferences.{alias_reference}

-- ---- reading and spelling

-- isalias is 0 or 1, and next, where the record is primary, no primary record before has its value
abbrev pub isalias_test : Claims → ℕ → ℕ → Option Cause
isalias_test claims value isalias = if nat_le isalias 1 then primary_value_test claims (is_primary_flag isalias) value else Some BadFlag

unfoldable pub category_at : Claims → ℕ → Reader CategoryRec
category_at claims nprim = do
  len ← symbol_length_at CATEGORY_LEN
  value ← value_at CATEGORY_VALUE nprim
  isalias ← number_if CATEGORY_ISALIAS 4 (isalias_test claims value)
  name ← symbol_name_at CATEGORY_NAME claims len
  done (record { value = value; isalias = isalias; name = name })

abbrev pub spell_category : CategoryRec → List ℕ
spell_category category = bytes_of 4 (length category.name) ++ bytes_of 4 category.value ++ bytes_of 4 category.isalias ++ category.name

-- the length and the numbers of a category fit their fields
pub record CategoryFits (category : CategoryRec) : Type 0 where
  pub len : length category.name < 2 ^ 32
  pub value : category.value < 2 ^ 32
  pub isalias : category.isalias < 2 ^ 32

-- ---- the category that stands at a place

abbrev pub category_in : List ℕ → ℕ → CategoryRec
category_in bytes place = record {
  value = num bytes (place + 4) 4;
  isalias = num bytes (place + 8) 4;
  name = take (num bytes place 4) (drop (place + 12) bytes);
}

-- a category stands there, in a buffer of a policy's size
abbrev pub HasCategory : List ℕ → ℕ → Type 0
HasCategory bytes place = (place + 12 + num bytes place 4 ≤ length bytes) × (length bytes ≤ MAX_POLICY_BYTES)

-- ---- what it names

-- the category that an alias stands for
abbrev pub category_references : Placed CategoryRec → List Reference
category_references category =
    alias_reference (is_primary_flag category.value.isalias)
    (record { place = category.place + 4; field = CATEGORY_VALUE; table = Categories; value = category.value.value })
