-- A common that was read has a new name and a new value.
use Rattle.std.proofs.Common.{ℕ, true, []}
use Rattle.pol_fields.specs.declared.fields.TheConstants.{COMMON_LEN, COMMON_VALUE, COMMON_NPRIM, COMMON_NEL, COMMON_NAME}
use Rattle.pol_cursor.specs.Parts.{number, number_if}
use Rattle.pol_symtab.specs.Claims.{Claims}
use Rattle.pol_symtab.specs.Inner.Freshness.{Gives, IsFresh}
use Rattle.pol_symtab.proofs.FreshRecords.{Gives-part, Gives-any, Gives-done, Gives-number_if, Gives-symbol_length, Gives-symbol_name, name_is_new, new_value_is_new}
use Rattle.pol_commons.specs.CommonRecord.{permission_count_test, common_at}
use Rattle.pol_commons.specs.Permissions.{permissions_at}

pub common_is_fresh : (taken : Claims) (nprim : ℕ) → Gives (common_at taken nprim) (λ common. IsFresh nprim taken common.name true common.value)
unfolding common_at
common_is_fresh taken nprim =
    Gives-part (Gives-symbol_length COMMON_LEN) λ len len-fits.
    Gives-part (Gives-number_if COMMON_VALUE 4) λ value value-fits.
    Gives-part (Gives-any (number_if COMMON_NPRIM 4 permission_count_test)) λ own_nprim nprim-fits.
    Gives-part (Gives-any (number COMMON_NEL 4)) λ count count-fits.
    Gives-part (Gives-symbol_name COMMON_NAME taken len) λ name name-fits.
    Gives-part (Gives-any (permissions_at [] count)) λ permissions permissions-fit.
    Gives-done _ (record { name = name; value = value; nprim = own_nprim; permissions = permissions }) (record { name_is_new = name_is_new taken name name-fits; value_is_new = λ primary. new_value_is_new nprim taken value value-fits })
