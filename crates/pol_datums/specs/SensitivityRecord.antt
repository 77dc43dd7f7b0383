-- Record 12: a sensitivity with the categories that go with it, or an alias of one (libsepol's sens_read).
use Rattle.std.specs.Prelude.{ℕ, ◌+◌, ◌<◌, ◌^◌, ◌&&◌, Option, Some, None, List, ◌++◌, length, take, drop, nat_le, if◌then◌else◌}
use Rattle.pol_fields.specs.declared.fault.Cause.{Cause}
use Rattle.pol_fields.specs.declared.fault.Cause.TheVariants.{ValueOut}
use Rattle.pol_fields.specs.declared.table_kind.TableKind.TheVariants.{Levels}
use Rattle.pol_fields.specs.declared.fields.TheConstants.{SENSITIVITY_LEN, SENSITIVITY_ISALIAS, SENSITIVITY_NAME, SENSITIVITY_SENS}
use Rattle.pol_cursor.specs.Outcome.{Reader, ◌>>=◌, done}
use Rattle.pol_cursor.specs.Parts.{num, number_if}
use Rattle.pol_cursor.specs.References.{Placed, Reference}
use Rattle.pol_cursor.specs.Spelling.{bytes_of}
use Rattle.pol_bitmap.specs.Bitmap.{bitmap_at, spell_bitmap, BitmapFits}
use Rattle.pol_bitmap.specs.Nodes.{bitmap_in, HasBitmap}
use Rattle.pol_symtab.specs.Claims.{Claims}
use Rattle.pol_symtab.specs.SymbolFields.{primary_value_test, symbol_length_at, symbol_name_at}
use Rattle.pol_datums.specs.declared.sensitivity_rec.SensitivityRec.{SensitivityRec}
use Rattle.pol_datums.specs.Flags.{flag_at, is_primary_flag}
use Rattle.pol_datums.specs.SymbolReferences.{alias_reference}

-- ---- reading and spelling

-- a value is 1 to the table's number of primary names, and next, where the record is primary, no primary record before has it
abbrev pub sens_test : ℕ → Claims → ℕ → ℕ → Option Cause
sens_test nprim claims isalias sens = if nat_le 1 sens && nat_le sens nprim then primary_value_test claims (is_primary_flag isalias) sens else Some ValueOut

-- the value, which stands behind the name as the sensitivity of a level
unfoldable pub sens_at : ℕ → Claims → ℕ → Reader ℕ
sens_at nprim claims isalias = number_if SENSITIVITY_SENS 4 (sens_test nprim claims isalias)

unfoldable pub sensitivity_at : Claims → ℕ → Reader SensitivityRec
sensitivity_at claims nprim = do
  len ← symbol_length_at SENSITIVITY_LEN
  isalias ← flag_at SENSITIVITY_ISALIAS
  name ← symbol_name_at SENSITIVITY_NAME claims len
  sens ← sens_at nprim claims isalias
  categories ← bitmap_at None
  done (record { isalias = isalias; name = name; sens = sens; categories = categories })

abbrev pub spell_sensitivity : SensitivityRec → List ℕ
spell_sensitivity level =
    bytes_of 4 (length level.name) ++ bytes_of 4 level.isalias ++ level.name ++ bytes_of 4 level.sens ++ spell_bitmap level.categories

-- the length and the numbers of a sensitivity fit their fields
pub record SensitivityFits (level : SensitivityRec) : Type 0 where
  pub len : length level.name < 2 ^ 32
  pub isalias : level.isalias < 2 ^ 32
  pub sens : level.sens < 2 ^ 32
  pub categories : BitmapFits level.categories

-- ---- the sensitivity that stands at a place

-- where its value stands, behind its name
abbrev pub sens_place : List ℕ → ℕ → ℕ
sens_place bytes place = place + 8 + num bytes place 4

abbrev pub sensitivity_in : List ℕ → ℕ → SensitivityRec
sensitivity_in bytes place = record {
  isalias = num bytes (place + 4) 4;
  name = take (num bytes place 4) (drop (place + 8) bytes);
  sens = num bytes (sens_place bytes place) 4;
  categories = bitmap_in bytes (sens_place bytes place + 4);
}

-- a sensitivity stands there, in a buffer of a policy's size
abbrev pub HasSensitivity : List ℕ → ℕ → Type 0
HasSensitivity bytes place = HasBitmap bytes (sens_place bytes place + 4)

-- ---- what it names

-- the sensitivity that an alias stands for
abbrev pub sensitivity_references : Placed SensitivityRec → List Reference
sensitivity_references level =
    alias_reference (is_primary_flag level.value.isalias)
    (record { place = level.place + 8 + length level.value.name; field = SENSITIVITY_SENS; table = Levels; value = level.value.sens })
