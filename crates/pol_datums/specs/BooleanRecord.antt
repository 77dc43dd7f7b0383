-- Record 11: a boolean (libsepol's cond_read_bool).
use Rattle.std.specs.Prelude.{ℕ, ◌+◌, ◌≤◌, ◌<◌, ◌^◌, List, ◌++◌, length, take, drop}
use Rattle.pol_fields.specs.declared.limits.TheConstants.{MAX_POLICY_BYTES}
use Rattle.pol_fields.specs.declared.fields.TheConstants.{BOOLEAN_VALUE, BOOLEAN_STATE, BOOLEAN_LEN, BOOLEAN_NAME}
use Rattle.pol_cursor.specs.Outcome.{Reader, ◌>>=◌, done}
use Rattle.pol_cursor.specs.Parts.{num}
use Rattle.pol_cursor.specs.Spelling.{bytes_of}
use Rattle.pol_symtab.specs.Claims.{Claims}
use Rattle.pol_symtab.specs.SymbolFields.{symbol_length_at, symbol_name_at}
use Rattle.pol_datums.specs.declared.boolean_rec.BooleanRec.{BooleanRec}
use Rattle.pol_datums.specs.SymbolValues.{new_value_at}
use Rattle.pol_datums.specs.Flags.{flag_at}

-- ---- reading and spelling

-- Its value and its state stand before the length of its name.
unfoldable pub boolean_at : Claims → ℕ → Reader BooleanRec
boolean_at claims nprim = do
  value ← new_value_at BOOLEAN_VALUE nprim claims
  state ← flag_at BOOLEAN_STATE
  len ← symbol_length_at BOOLEAN_LEN
  name ← symbol_name_at BOOLEAN_NAME claims len
  done (record { value = value; state = state; name = name })

abbrev pub spell_boolean : BooleanRec → List ℕ
spell_boolean boolean = bytes_of 4 boolean.value ++ bytes_of 4 boolean.state ++ bytes_of 4 (length boolean.name) ++ boolean.name

-- the length and the numbers of a boolean fit their fields
pub record BooleanFits (boolean : BooleanRec) : Type 0 where
  pub value : boolean.value < 2 ^ 32
  pub state : boolean.state < 2 ^ 32
  pub len : length boolean.name < 2 ^ 32

-- ---- the boolean that stands at a place

abbrev pub boolean_in : List ℕ → ℕ → BooleanRec
boolean_in bytes place = record {
  value = num bytes place 4;
  state = num bytes (place + 4) 4;
  name = take (num bytes (place + 8) 4) (drop (place + 12) bytes);
}

-- a boolean stands there, in a buffer of a policy's size
abbrev pub HasBoolean : List ℕ → ℕ → Type 0
HasBoolean bytes place = (place + 12 + num bytes (place + 8) 4 ≤ length bytes) × (length bytes ≤ MAX_POLICY_BYTES)
