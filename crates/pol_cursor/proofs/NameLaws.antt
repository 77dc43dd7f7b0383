-- The two laws of a name behind its length.
use Rattle.std.proofs.Common.{length}
use Rattle.std.proofs.lemmas.List.{append-nil}
use Rattle.pol_fields.specs.declared.field.Field.{Field}
use Rattle.pol_cursor.specs.Laws.{IsReadAgain, IsReadFromSpelling}
use Rattle.pol_cursor.specs.FileNames.{name_length_at, name_bytes_at, name_at, spell_name, NameFits}
use Rattle.pol_cursor.proofs.Laws.{Reads-done, Reads-part, Reads-number_if, Reads-string_if, Again-done, Again-part, Again-as, Again-number_if, Again-string_if}

pub name_spelled : (len_field name_field : Field) → IsReadFromSpelling (name_at len_field name_field) spell_name NameFits
unfolding name_at name_length_at name_bytes_at
name_spelled len_field name_field =
    Reads-part (Reads-number_if len_field 4) λ len len-fits.
    Reads-part (Reads-string_if name_field len) λ name name-fits.
    Reads-done _ name (record { same = rw (name-fits.0) (simp append-nil); fitting = rw (name-fits.0) (len-fits.0) })

pub name_again : (len_field name_field : Field) → IsReadAgain (name_at len_field name_field) spell_name NameFits
unfolding name_at name_length_at name_bytes_at
name_again len_field name_field name fits =
    Again-as
    (Again-part _ (Again-number_if len_field 4 (length name) _ fits)
    (Again-part _ (Again-string_if name_field name _)
    (Again-done name)))
    (simp append-nil)
