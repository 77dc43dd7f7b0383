-- Names of files, file systems, interfaces and devices: a length, and so many bytes, none of which is 0 (libsepol's str_read).
use Rattle.std.specs.Prelude.{ℕ, ◌+◌, ◌<◌, ◌^◌, List, ◌++◌, Option, Bool, length, take, drop, nat_le}
use Rattle.std.specs.List.{list_all}
use Rattle.pol_fields.specs.declared.fault.Cause.{Cause}
use Rattle.pol_fields.specs.declared.fault.Cause.TheVariants.{BadName}
use Rattle.pol_fields.specs.declared.field.Field.{Field}
use Rattle.pol_cursor.specs.Outcome.{Reader, ◌>>=◌, done}
use Rattle.pol_cursor.specs.Parts.{num, number_if, string_if, unless}
use Rattle.pol_cursor.specs.Spelling.{bytes_of}

abbrev pub name_length_test : ℕ → Option Cause
name_length_test len = unless (nat_le 1 len) BadName

abbrev pub is_name_byte : ℕ → Bool
is_name_byte byte = nat_le 1 byte

abbrev pub name_test : List ℕ → Option Cause
name_test name = unless (list_all is_name_byte name) BadName

-- the length of a name
unfoldable pub name_length_at : Field → Reader ℕ
name_length_at field = number_if field 4 name_length_test

-- its bytes
unfoldable pub name_bytes_at : Field → ℕ → Reader (List ℕ)
name_bytes_at field len = string_if field len name_test

-- a name behind its length
unfoldable pub name_at : Field → Field → Reader (List ℕ)
name_at len_field name_field = do
  len ← name_length_at len_field
  name ← name_bytes_at name_field len
  done name

abbrev pub spell_name : List ℕ → List ℕ
spell_name name = bytes_of 4 (length name) ++ name

-- the length of a name fits its field
abbrev pub NameFits : List ℕ → Type 0
NameFits name = length name < 2 ^ 32

-- ---- the name that stands at a place

abbrev pub name_in : List ℕ → ℕ → List ℕ
name_in bytes place = take (num bytes place 4) (drop (place + 4) bytes)

-- the place behind it
abbrev pub name_end : List ℕ → ℕ → ℕ
name_end bytes place = place + 4 + num bytes place 4
