-- The parts that every symbol record has, its length, its name and its value, and their conditions in the order in which they are tried.
use Rattle.std.specs.Prelude.{ℕ, Bool, ◌&&◌, Option, Some, None, List, nat_le, if◌then◌else◌}
use Rattle.std.specs.List.{list_all}
use Rattle.pol_fields.specs.declared.fault.Cause.{Cause}
use Rattle.pol_fields.specs.declared.fault.Cause.TheVariants.{EmptyName, BadNameByte, DuplicateName, DuplicateValue, ValueOut}
use Rattle.pol_fields.specs.declared.field.Field.{Field}
use Rattle.pol_cursor.specs.Outcome.{Reader}
use Rattle.pol_cursor.specs.Parts.{number_if, string_if, unless}
use Rattle.pol_symtab.specs.Claims.{Claims, has_name, has_value}

-- a name has a byte (libsepol's str_read refuses the length 0)
abbrev pub length_test : ℕ → Option Cause
length_test len = unless (nat_le 1 len) EmptyName

-- a byte of a name is a printable one of ASCII, and no space (this project's profile)
abbrev pub is_name_byte : ℕ → Bool
is_name_byte byte = nat_le 0x21 byte && nat_le byte 0x7E

-- a name has only such bytes, and next, no record before has it, an alias or not (libsepol's hashtab_insert)
abbrev pub name_test : Claims → List ℕ → Option Cause
name_test claims name = if list_all is_name_byte name then (if has_name claims name then Some DuplicateName else None) else Some BadNameByte

-- a value is 1 to nprim (libsepol's type_index, and the like of the other tables)
abbrev pub value_test : ℕ → ℕ → Option Cause
value_test nprim value = unless (nat_le 1 value && nat_le value nprim) ValueOut

-- the value of a record that is always primary: next, no record before has it (libsepol's role_index and the like)
abbrev pub new_value_test : ℕ → Claims → ℕ → Option Cause
new_value_test nprim claims value = if nat_le 1 value && nat_le value nprim then (if has_value claims value then Some DuplicateValue else None) else Some ValueOut

-- the value of a record that may be an alias: where it is primary, no primary record before has it (libsepol's type_index and the like)
abbrev pub primary_value_test : Claims → Bool → ℕ → Option Cause
primary_value_test claims primary value = if primary && has_value claims value then Some DuplicateValue else None

-- the length of a name
unfoldable pub symbol_length_at : Field → Reader ℕ
symbol_length_at field = number_if field 4 length_test

-- a name of that length, under the claims of the records before
unfoldable pub symbol_name_at : Field → Claims → ℕ → Reader (List ℕ)
symbol_name_at field claims len = string_if field len (name_test claims)
