-- A class that was read has a new name and a new value.
use Rattle.std.proofs.Common.{ℕ, true, false}
use Rattle.pol_fields.specs.declared.fields.TheConstants.{CLASS_LEN, CLASS_LEN2, CLASS_VALUE, CLASS_NPRIM, CLASS_NEL, CLASS_NCONS, CLASS_NAME, CLASS_NVALID, CLASS_DEFAULT_USER, CLASS_DEFAULT_ROLE, CLASS_DEFAULT_RANGE, CLASS_DEFAULT_TYPE}
use Rattle.pol_cursor.specs.Parts.{number, number_if, counted}
use Rattle.pol_symtab.specs.Claims.{Claims}
use Rattle.pol_symtab.specs.SymbolTables.{Table}
use Rattle.pol_symtab.specs.Inner.Freshness.{Gives, IsFresh}
use Rattle.pol_symtab.proofs.FreshRecords.{Gives-part, Gives-any, Gives-done, Gives-number_if, Gives-symbol_length, Gives-symbol_name, name_is_new, new_value_is_new}
use Rattle.pol_commons.specs.declared.common_rec.CommonRec.{CommonRec}
use Rattle.pol_commons.specs.CommonRecord.{permission_count_test}
use Rattle.pol_commons.specs.CommonTable.{inherited_from}
use Rattle.pol_commons.specs.Permissions.{permissions_at}
use Rattle.pol_classes.specs.ConstraintLists.{constraints_at}
use Rattle.pol_classes.specs.ClassRecord.{common_name_at, head_at, default_at, class_at}

head_is_fresh : (taken : Claims) (nprim : ℕ) (commons : Table CommonRec) → Gives (head_at taken nprim commons) (λ head. IsFresh nprim taken head.name true head.value)
unfolding head_at
head_is_fresh taken nprim commons =
    Gives-part (Gives-symbol_length CLASS_LEN) λ len len-fits.
    Gives-part (Gives-any (number CLASS_LEN2 4)) λ common_len common_len-fits.
    Gives-part (Gives-number_if CLASS_VALUE 4) λ value value-fits.
    Gives-part (Gives-any (number_if CLASS_NPRIM 4 permission_count_test)) λ own_nprim nprim-fits.
    Gives-part (Gives-any (number CLASS_NEL 4)) λ nel nel-fits.
    Gives-part (Gives-any (number CLASS_NCONS 4)) λ ncons ncons-fits.
    Gives-part (Gives-symbol_name CLASS_NAME taken len) λ name name-fits.
    Gives-part (Gives-any (common_name_at commons common_len)) λ common common-fits.
    Gives-done _ (record { name = name; common = common; value = value; nprim = own_nprim; nel = nel; ncons = ncons }) (record {
      name_is_new = name_is_new taken name name-fits;
      value_is_new = λ primary. new_value_is_new nprim taken value value-fits;
    })

pub class_is_fresh : (version : ℕ) (taken : Claims) (nprim : ℕ) (commons : Table CommonRec) → Gives (class_at version taken nprim commons) (λ class. IsFresh nprim taken class.name true class.value)
unfolding class_at
class_is_fresh version taken nprim commons =
    Gives-part (head_is_fresh taken nprim commons) λ head fresh.
    Gives-part (Gives-any (permissions_at (inherited_from commons head.common) head.nel)) λ permissions permissions-fit.
    Gives-part (Gives-any (constraints_at version false head.ncons)) λ constraints constraints-fit.
    Gives-part (Gives-any (counted CLASS_NVALID (constraints_at version true))) λ validatetrans validatetrans-fit.
    Gives-part (Gives-any (default_at CLASS_DEFAULT_USER 2)) λ default_user user-fits.
    Gives-part (Gives-any (default_at CLASS_DEFAULT_ROLE 2)) λ default_role role-fits.
    Gives-part (Gives-any (default_at CLASS_DEFAULT_RANGE 7)) λ default_range range-fits.
    Gives-part (Gives-any (default_at CLASS_DEFAULT_TYPE 2)) λ default_type type-fits.
    Gives-done _ (record {
      name = head.name;
      common = head.common;
      value = head.value;
      nprim = head.nprim;
      permissions = permissions;
      constraints = constraints;
      validatetrans = validatetrans;
      default_user = default_user;
      default_role = default_role;
      default_range = default_range;
      default_type = default_type;
    }) fresh
