-- The two laws of a symbol's length and of its name, for the laws of the records that have them.
use Rattle.std.proofs.Common.{◌≡◌, ℕ, ◌<◌, ◌^◌, List, None, length}
use Rattle.pol_fields.specs.declared.field.Field.{Field}
use Rattle.pol_cursor.specs.Laws.{Reads, Again, IsSpelling}
use Rattle.pol_cursor.specs.Spelling.{bytes_of}
use Rattle.pol_cursor.proofs.Laws.{Reads-number_if, Reads-string_if, Again-number_if, Again-string_if}
use Rattle.pol_symtab.specs.Claims.{Claims}
use Rattle.pol_symtab.specs.SymbolFields.{length_test, name_test, symbol_length_at, symbol_name_at}

pub Reads-symbol_length : (field : Field) → Reads (symbol_length_at field) (IsSpelling (bytes_of 4) (λ len. (len < 2 ^ 32) × (length_test len ≡ None)))
unfolding symbol_length_at
Reads-symbol_length field = Reads-number_if field 4

pub Again-symbol_length : (field : Field) (len : ℕ) → len < 2 ^ 32 → Again (symbol_length_at field) len (bytes_of 4 len)
unfolding symbol_length_at
Again-symbol_length field len fits = Again-number_if field 4 len length_test fits

pub Reads-symbol_name : (field : Field) (claims : Claims) (len : ℕ) → Reads (symbol_name_at field claims len) (IsSpelling (λ name. name) (λ name. (length name ≡ len) × (name_test claims name ≡ None)))
unfolding symbol_name_at
Reads-symbol_name field claims len = Reads-string_if field len

pub Again-symbol_name : (field : Field) (claims : Claims) (name : List ℕ) → Again (symbol_name_at field claims (length name)) name name
unfolding symbol_name_at
Again-symbol_name field claims name = Again-string_if field name (name_test claims)
