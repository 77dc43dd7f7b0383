-- A user that was read has a new name and a new value.
use Rattle.std.proofs.Common.{ℕ, None, true}
use Rattle.pol_fields.specs.declared.fields.TheConstants.{USER_LEN, USER_VALUE, USER_BOUNDS, USER_NAME}
use Rattle.pol_bitmap.specs.Bitmap.{bitmap_at}
use Rattle.pol_mls.specs.LevelRecord.{level_at}
use Rattle.pol_mls.specs.RangeRecord.{range_at}
use Rattle.pol_symtab.specs.Claims.{Claims}
use Rattle.pol_symtab.specs.Inner.Freshness.{Gives, IsFresh}
use Rattle.pol_symtab.proofs.FreshRecords.{Gives-part, Gives-any, Gives-done, Gives-number_if, Gives-symbol_length, Gives-symbol_name, name_is_new, new_value_is_new}
use Rattle.pol_datums.specs.SymbolValues.{new_value_at, bounds_at}
use Rattle.pol_symbols.specs.UserRecord.{user_at}

pub user_is_fresh : (claims : Claims) (nprim : ℕ) → Gives (user_at claims nprim) (λ user. IsFresh nprim claims user.name true user.value)
unfolding user_at new_value_at
user_is_fresh claims nprim =
    Gives-part (Gives-symbol_length USER_LEN) λ len len-fits.
    Gives-part (Gives-number_if USER_VALUE 4) λ value value-fits.
    Gives-part (Gives-any (bounds_at USER_BOUNDS)) λ bounds bounds-fits.
    Gives-part (Gives-symbol_name USER_NAME claims len) λ name name-fits.
    Gives-part (Gives-any (bitmap_at None)) λ roles roles-fits.
    Gives-part (Gives-any range_at) λ range range-fits.
    Gives-part (Gives-any level_at) λ level level-fits.
    Gives-done _ (record { value = value; bounds = bounds; name = name; roles = roles; range = range; level = level })
    (record { name_is_new = name_is_new claims name name-fits; value_is_new = λ primary. new_value_is_new nprim claims value value-fits })
