-- Flags of records.
use Rattle.std.specs.Prelude.{ℕ, ◌==◌, Bool, Option, nat_le}
use Rattle.pol_fields.specs.declared.fault.Cause.{Cause}
use Rattle.pol_fields.specs.declared.fault.Cause.TheVariants.{BadFlag}
use Rattle.pol_fields.specs.declared.field.Field.{Field}
use Rattle.pol_cursor.specs.Outcome.{Reader}
use Rattle.pol_cursor.specs.Parts.{number_if, unless}

-- a flag is 0 or 1 (libsepol's bool_isvalid of the state of a boolean, and this project's profile of isalias)
abbrev pub flag_test : ℕ → Option Cause
flag_test flag = unless (nat_le flag 1) BadFlag

-- a flag at its field
unfoldable pub flag_at : Field → Reader ℕ
flag_at field = number_if field 4 flag_test

-- A sensitivity or a category is primary exactly where its isalias is 0.
abbrev pub is_primary_flag : ℕ → Bool
is_primary_flag isalias = isalias == 0
