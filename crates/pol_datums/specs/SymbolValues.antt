-- The values of symbols, and their bounds.
use Rattle.std.specs.Prelude.{ℕ}
use Rattle.pol_fields.specs.declared.field.Field.{Field}
use Rattle.pol_cursor.specs.Outcome.{Reader}
use Rattle.pol_cursor.specs.Parts.{number, number_if}
use Rattle.pol_symtab.specs.Claims.{Claims}
use Rattle.pol_symtab.specs.SymbolFields.{value_test, new_value_test}

-- the value of a record that may be an alias
unfoldable pub value_at : Field → ℕ → Reader ℕ
value_at field nprim = number_if field 4 (value_test nprim)

-- the value of a record that is always primary
unfoldable pub new_value_at : Field → ℕ → Claims → Reader ℕ
new_value_at field nprim claims = number_if field 4 (new_value_test nprim claims)

-- the value that bounds a record, of which nothing is asked where it is read
unfoldable pub bounds_at : Field → Reader ℕ
bounds_at field = number field 4
