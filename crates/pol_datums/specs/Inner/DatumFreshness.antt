-- A symbol that was read has a new name and, where it is primary, a new value.
use Rattle.std.proofs.Common.{◌≡◌, ℕ, ◌&&◌, Bool, true, false, Option, Some, None, cond, refl}
use Rattle.std.specs.Prelude.{nat_le}
use Rattle.pol_fields.specs.declared.fault.Cause.{Cause}
use Rattle.pol_fields.specs.declared.fault.Cause.TheVariants.{BadFlag, ValueOut}
use Rattle.pol_fields.specs.declared.fields.TheConstants.{ROLE_LEN, ROLE_VALUE, ROLE_BOUNDS, ROLE_NAME, TYPE_LEN, TYPE_VALUE, TYPE_PROPERTIES, TYPE_BOUNDS, TYPE_NAME, BOOLEAN_VALUE, BOOLEAN_STATE, BOOLEAN_LEN, BOOLEAN_NAME, SENSITIVITY_LEN, SENSITIVITY_ISALIAS, SENSITIVITY_NAME, SENSITIVITY_SENS, CATEGORY_LEN, CATEGORY_VALUE, CATEGORY_ISALIAS, CATEGORY_NAME}
use Rattle.pol_cursor.specs.Parts.{unless}
use Rattle.pol_bitmap.specs.Bitmap.{bitmap_at}
use Rattle.pol_symtab.specs.Claims.{Claims}
use Rattle.pol_symtab.specs.SymbolFields.{primary_value_test}
use Rattle.pol_symtab.specs.Inner.Freshness.{Gives, IsFresh}
use Rattle.pol_symtab.proofs.FreshRecords.{Gives-part, Gives-any, Gives-done, Gives-number_if, Gives-symbol_length, Gives-symbol_name, name_is_new, value_is_in, new_value_is_new, primary_value_is_new}
use Rattle.pol_datums.specs.Flags.{is_primary_flag, flag_at}
use Rattle.pol_datums.specs.SymbolValues.{value_at, new_value_at, bounds_at}
use Rattle.pol_datums.specs.RoleRecord.{role_at}
use Rattle.pol_datums.specs.TypeRecord.{type_at, is_primary_type}
use Rattle.pol_datums.specs.BooleanRecord.{boolean_at}
use Rattle.pol_datums.specs.SensitivityRecord.{sensitivity_at, sens_at}
use Rattle.pol_datums.specs.CategoryRecord.{category_at}

pub role_is_fresh : (claims : Claims) (nprim : ℕ) → Gives (role_at claims nprim) (λ role. IsFresh nprim claims role.name true role.value)
unfolding role_at new_value_at
role_is_fresh claims nprim =
    Gives-part (Gives-symbol_length ROLE_LEN) λ len len-fits.
    Gives-part (Gives-number_if ROLE_VALUE 4) λ value value-fits.
    Gives-part (Gives-any (bounds_at ROLE_BOUNDS)) λ bounds bounds-fits.
    Gives-part (Gives-symbol_name ROLE_NAME claims len) λ name name-fits.
    Gives-part (Gives-any (bitmap_at None)) λ dominates dominates-fits.
    Gives-part (Gives-any (bitmap_at None)) λ types types-fits.
    Gives-done _ (record { value = value; bounds = bounds; name = name; dominates = dominates; types = types }) (record { name_is_new = name_is_new claims name name-fits; value_is_new = λ primary. new_value_is_new nprim claims value value-fits })

pub type_is_fresh : (claims : Claims) (nprim : ℕ) → Gives (type_at claims nprim) (λ t. IsFresh nprim claims t.name (is_primary_type t.properties) t.value)
unfolding type_at value_at
type_is_fresh claims nprim =
    Gives-part (Gives-symbol_length TYPE_LEN) λ len len-fits.
    Gives-part (Gives-number_if TYPE_VALUE 4) λ value value-fits.
    Gives-part (Gives-number_if TYPE_PROPERTIES 4) λ properties properties-fits.
    Gives-part (Gives-any (bounds_at TYPE_BOUNDS)) λ bounds bounds-fits.
    Gives-part (Gives-symbol_name TYPE_NAME claims len) λ name name-fits.
    Gives-done _ (record { value = value; properties = properties; bounds = bounds; name = name }) (record {
      name_is_new = name_is_new claims name name-fits;
      value_is_new = λ primary. let within = value_is_in nprim value value-fits in (within.0, within.1, primary_value_is_new claims (is_primary_type properties) value properties-fits primary);
    })

pub boolean_is_fresh : (claims : Claims) (nprim : ℕ) → Gives (boolean_at claims nprim) (λ boolean. IsFresh nprim claims boolean.name true boolean.value)
unfolding boolean_at new_value_at
boolean_is_fresh claims nprim =
    Gives-part (Gives-number_if BOOLEAN_VALUE 4) λ value value-fits.
    Gives-part (Gives-any (flag_at BOOLEAN_STATE)) λ state state-fits.
    Gives-part (Gives-symbol_length BOOLEAN_LEN) λ len len-fits.
    Gives-part (Gives-symbol_name BOOLEAN_NAME claims len) λ name name-fits.
    Gives-done _ (record { value = value; state = state; name = name }) (record { name_is_new = name_is_new claims name name-fits; value_is_new = λ primary. new_value_is_new nprim claims value value-fits })

-- two conditions, neither of which has refused anything
both_hold : (first : Bool) (second : Option Cause) (cause : Cause) → cond first second (Some cause) ≡ None → (unless first cause ≡ None) × (second ≡ None)
both_hold true second cause e = (refl, e)
both_hold false second cause e = absurd cc

pub sensitivity_is_fresh : (claims : Claims) (nprim : ℕ) → Gives (sensitivity_at claims nprim) (λ level. IsFresh nprim claims level.name (is_primary_flag level.isalias) level.sens)
unfolding sensitivity_at sens_at
sensitivity_is_fresh claims nprim =
    Gives-part (Gives-symbol_length SENSITIVITY_LEN) λ len len-fits.
    Gives-part (Gives-any (flag_at SENSITIVITY_ISALIAS)) λ isalias isalias-fits.
    Gives-part (Gives-symbol_name SENSITIVITY_NAME claims len) λ name name-fits.
    Gives-part (Gives-number_if SENSITIVITY_SENS 4) λ sens sens-fits.
    Gives-part (Gives-any (bitmap_at None)) λ categories categories-fits.
    Gives-done _ (record { isalias = isalias; name = name; sens = sens; categories = categories }) (record {
      name_is_new = name_is_new claims name name-fits;
      value_is_new = λ primary.
          let both = both_hold (nat_le 1 sens && nat_le sens nprim) (primary_value_test claims (is_primary_flag isalias) sens) ValueOut sens-fits in
          let within = value_is_in nprim sens both.0 in
          (within.0, within.1, primary_value_is_new claims (is_primary_flag isalias) sens both.1 primary);
    })

pub category_is_fresh : (claims : Claims) (nprim : ℕ) → Gives (category_at claims nprim) (λ category. IsFresh nprim claims category.name (is_primary_flag category.isalias) category.value)
unfolding category_at value_at
category_is_fresh claims nprim =
    Gives-part (Gives-symbol_length CATEGORY_LEN) λ len len-fits.
    Gives-part (Gives-number_if CATEGORY_VALUE 4) λ value value-fits.
    Gives-part (Gives-number_if CATEGORY_ISALIAS 4) λ isalias isalias-fits.
    Gives-part (Gives-symbol_name CATEGORY_NAME claims len) λ name name-fits.
    Gives-done _ (record { value = value; isalias = isalias; name = name }) (record {
      name_is_new = name_is_new claims name name-fits;
      value_is_new = λ primary.
          let both = both_hold (nat_le isalias 1) (primary_value_test claims (is_primary_flag isalias) value) BadFlag isalias-fits in
          let within = value_is_in nprim value value-fits in
          (within.0, within.1, primary_value_is_new claims (is_primary_flag isalias) value both.1 primary);
    })
