-- The two laws of users.
use Rattle.std.proofs.Common.{ℕ, None, length, append_assoc}
use Rattle.std.proofs.lemmas.List.{append-nil}
use Rattle.pol_fields.specs.declared.fields.TheConstants.{USER_LEN, USER_VALUE, USER_BOUNDS, USER_NAME}
use Rattle.pol_cursor.specs.Laws.{IsReadAgain, IsReadFromSpelling}
use Rattle.pol_cursor.proofs.Laws.{Reads-done, Reads-part, Reads-number, Reads-number_if, Again-done, Again-part, Again-as, Again-number, Again-number_if}
use Rattle.pol_bitmap.proofs.Laws.{bitmap_spelled, bitmap_again}
use Rattle.pol_mls.proofs.MlsLaws.{level_spelled, level_again, range_spelled, range_again}
use Rattle.pol_symtab.specs.Claims.{Claims}
use Rattle.pol_symtab.proofs.SymbolFieldLaws.{Reads-symbol_length, Reads-symbol_name, Again-symbol_length, Again-symbol_name}
use Rattle.pol_datums.specs.SymbolValues.{new_value_at, bounds_at}
use Rattle.pol_symbols.specs.UserRecord.{user_at, spell_user, UserFits}

-- ---- users

pub user_spelled : (claims : Claims) (nprim : ℕ) → IsReadFromSpelling (user_at claims nprim) spell_user UserFits
unfolding user_at new_value_at bounds_at
user_spelled claims nprim =
    Reads-part (Reads-symbol_length USER_LEN) λ len len-fits.
    Reads-part (Reads-number_if USER_VALUE 4) λ value value-fits.
    Reads-part (Reads-number USER_BOUNDS 4) λ bounds bounds-fits.
    Reads-part (Reads-symbol_name USER_NAME claims len) λ name name-fits.
    Reads-part (bitmap_spelled None) λ roles roles-fits.
    Reads-part range_spelled λ range range-fits.
    Reads-part level_spelled λ level level-fits.
    Reads-done _ (record { value = value; bounds = bounds; name = name; roles = roles; range = range; level = level }) (record {
      same = rw (name-fits.0) (simp (append_assoc, append-nil));
      fitting = record { len = rw (name-fits.0) len-fits.0; value = value-fits.0; bounds = bounds-fits; roles = roles-fits; range = range-fits; level = level-fits };
    })

pub user_again : (claims : Claims) (nprim : ℕ) → IsReadAgain (user_at claims nprim) spell_user UserFits
unfolding user_at new_value_at bounds_at
user_again claims nprim user fits =
    Again-as
    (Again-part _ (Again-symbol_length USER_LEN (length user.name) fits.len)
    (Again-part _ (Again-number_if USER_VALUE 4 user.value _ fits.value)
    (Again-part _ (Again-number USER_BOUNDS 4 user.bounds fits.bounds)
    (Again-part _ (Again-symbol_name USER_NAME claims user.name)
    (Again-part _ (bitmap_again None user.roles fits.roles)
    (Again-part _ (range_again user.range fits.range)
    (Again-part _ (level_again user.level fits.level)
    (Again-done user))))))))
    (simp (append_assoc, append-nil))
