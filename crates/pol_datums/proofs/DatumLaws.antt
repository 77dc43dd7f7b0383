-- The two laws of roles, types, booleans, sensitivities and categories.
use Rattle.std.proofs.Common.{ℕ, None, length, append_assoc}
use Rattle.std.proofs.lemmas.List.{append-nil}
use Rattle.pol_fields.specs.declared.fields.TheConstants.{ROLE_LEN, ROLE_VALUE, ROLE_BOUNDS, ROLE_NAME, TYPE_LEN, TYPE_VALUE, TYPE_PROPERTIES, TYPE_BOUNDS, TYPE_NAME, BOOLEAN_VALUE, BOOLEAN_STATE, BOOLEAN_LEN, BOOLEAN_NAME, SENSITIVITY_LEN, SENSITIVITY_ISALIAS, SENSITIVITY_NAME, SENSITIVITY_SENS, CATEGORY_LEN, CATEGORY_VALUE, CATEGORY_ISALIAS, CATEGORY_NAME}
use Rattle.pol_cursor.specs.Laws.{IsReadAgain, IsReadFromSpelling}
use Rattle.pol_cursor.proofs.Laws.{Reads-done, Reads-part, Reads-number, Reads-number_if, Again-done, Again-part, Again-as, Again-number, Again-number_if}
use Rattle.pol_bitmap.proofs.Laws.{bitmap_spelled, bitmap_again}
use Rattle.pol_symtab.specs.Claims.{Claims}
use Rattle.pol_symtab.proofs.SymbolFieldLaws.{Reads-symbol_length, Reads-symbol_name, Again-symbol_length, Again-symbol_name}
use Rattle.pol_datums.specs.Flags.{flag_at}
use Rattle.pol_datums.specs.SymbolValues.{value_at, new_value_at, bounds_at}
use Rattle.pol_datums.specs.RoleRecord.{role_at, spell_role, RoleFits}
use Rattle.pol_datums.specs.TypeRecord.{type_at, spell_type, TypeFits}
use Rattle.pol_datums.specs.BooleanRecord.{boolean_at, spell_boolean, BooleanFits}
use Rattle.pol_datums.specs.SensitivityRecord.{sens_at, sensitivity_at, spell_sensitivity, SensitivityFits}
use Rattle.pol_datums.specs.CategoryRecord.{category_at, spell_category, CategoryFits}

-- ---- roles

pub role_spelled : (claims : Claims) (nprim : ℕ) → IsReadFromSpelling (role_at claims nprim) spell_role RoleFits
unfolding role_at new_value_at bounds_at
role_spelled claims nprim =
    Reads-part (Reads-symbol_length ROLE_LEN) λ len len-fits.
    Reads-part (Reads-number_if ROLE_VALUE 4) λ value value-fits.
    Reads-part (Reads-number ROLE_BOUNDS 4) λ bounds bounds-fits.
    Reads-part (Reads-symbol_name ROLE_NAME claims len) λ name name-fits.
    Reads-part (bitmap_spelled None) λ dominates dominates-fits.
    Reads-part (bitmap_spelled None) λ types types-fits.
    Reads-done _ (record { value = value; bounds = bounds; name = name; dominates = dominates; types = types }) (record {
      same = rw (name-fits.0) (simp (append_assoc, append-nil));
      fitting = record { len = rw (name-fits.0) len-fits.0; value = value-fits.0; bounds = bounds-fits; dominates = dominates-fits; types = types-fits };
    })

pub role_again : (claims : Claims) (nprim : ℕ) → IsReadAgain (role_at claims nprim) spell_role RoleFits
unfolding role_at new_value_at bounds_at
role_again claims nprim role fits =
    Again-as
    (Again-part _ (Again-symbol_length ROLE_LEN (length role.name) fits.len)
    (Again-part _ (Again-number_if ROLE_VALUE 4 role.value _ fits.value)
    (Again-part _ (Again-number ROLE_BOUNDS 4 role.bounds fits.bounds)
    (Again-part _ (Again-symbol_name ROLE_NAME claims role.name)
    (Again-part _ (bitmap_again None role.dominates fits.dominates)
    (Again-part _ (bitmap_again None role.types fits.types)
    (Again-done role)))))))
    (simp (append_assoc, append-nil))

-- ---- types

pub type_spelled : (claims : Claims) (nprim : ℕ) → IsReadFromSpelling (type_at claims nprim) spell_type TypeFits
unfolding type_at value_at bounds_at
type_spelled claims nprim =
    Reads-part (Reads-symbol_length TYPE_LEN) λ len len-fits.
    Reads-part (Reads-number_if TYPE_VALUE 4) λ value value-fits.
    Reads-part (Reads-number_if TYPE_PROPERTIES 4) λ properties properties-fits.
    Reads-part (Reads-number TYPE_BOUNDS 4) λ bounds bounds-fits.
    Reads-part (Reads-symbol_name TYPE_NAME claims len) λ name name-fits.
    Reads-done _ (record { value = value; properties = properties; bounds = bounds; name = name }) (record {
      same = rw (name-fits.0) (simp (append_assoc, append-nil));
      fitting = record { len = rw (name-fits.0) len-fits.0; value = value-fits.0; properties = properties-fits.0; bounds = bounds-fits };
    })

pub type_again : (claims : Claims) (nprim : ℕ) → IsReadAgain (type_at claims nprim) spell_type TypeFits
unfolding type_at value_at bounds_at
type_again claims nprim t fits =
    Again-as
    (Again-part _ (Again-symbol_length TYPE_LEN (length t.name) fits.len)
    (Again-part _ (Again-number_if TYPE_VALUE 4 t.value _ fits.value)
    (Again-part _ (Again-number_if TYPE_PROPERTIES 4 t.properties _ fits.properties)
    (Again-part _ (Again-number TYPE_BOUNDS 4 t.bounds fits.bounds)
    (Again-part _ (Again-symbol_name TYPE_NAME claims t.name)
    (Again-done t))))))
    (simp (append_assoc, append-nil))

-- ---- booleans

pub boolean_spelled : (claims : Claims) (nprim : ℕ) → IsReadFromSpelling (boolean_at claims nprim) spell_boolean BooleanFits
unfolding boolean_at new_value_at flag_at
boolean_spelled claims nprim =
    Reads-part (Reads-number_if BOOLEAN_VALUE 4) λ value value-fits.
    Reads-part (Reads-number_if BOOLEAN_STATE 4) λ state state-fits.
    Reads-part (Reads-symbol_length BOOLEAN_LEN) λ len len-fits.
    Reads-part (Reads-symbol_name BOOLEAN_NAME claims len) λ name name-fits.
    Reads-done _ (record { value = value; state = state; name = name }) (record {
      same = rw (name-fits.0) (simp (append_assoc, append-nil));
      fitting = record { value = value-fits.0; state = state-fits.0; len = rw (name-fits.0) len-fits.0 };
    })

pub boolean_again : (claims : Claims) (nprim : ℕ) → IsReadAgain (boolean_at claims nprim) spell_boolean BooleanFits
unfolding boolean_at new_value_at flag_at
boolean_again claims nprim boolean fits =
    Again-as
    (Again-part _ (Again-number_if BOOLEAN_VALUE 4 boolean.value _ fits.value)
    (Again-part _ (Again-number_if BOOLEAN_STATE 4 boolean.state _ fits.state)
    (Again-part _ (Again-symbol_length BOOLEAN_LEN (length boolean.name) fits.len)
    (Again-part _ (Again-symbol_name BOOLEAN_NAME claims boolean.name)
    (Again-done boolean)))))
    (simp (append_assoc, append-nil))

-- ---- sensitivities

pub sensitivity_spelled : (claims : Claims) (nprim : ℕ) → IsReadFromSpelling (sensitivity_at claims nprim) spell_sensitivity SensitivityFits
unfolding sensitivity_at sens_at flag_at
sensitivity_spelled claims nprim =
    Reads-part (Reads-symbol_length SENSITIVITY_LEN) λ len len-fits.
    Reads-part (Reads-number_if SENSITIVITY_ISALIAS 4) λ isalias isalias-fits.
    Reads-part (Reads-symbol_name SENSITIVITY_NAME claims len) λ name name-fits.
    Reads-part (Reads-number_if SENSITIVITY_SENS 4) λ sens sens-fits.
    Reads-part (bitmap_spelled None) λ categories categories-fits.
    Reads-done _ (record { isalias = isalias; name = name; sens = sens; categories = categories }) (record {
      same = rw (name-fits.0) (simp (append_assoc, append-nil));
      fitting = record { len = rw (name-fits.0) len-fits.0; isalias = isalias-fits.0; sens = sens-fits.0; categories = categories-fits };
    })

pub sensitivity_again : (claims : Claims) (nprim : ℕ) → IsReadAgain (sensitivity_at claims nprim) spell_sensitivity SensitivityFits
unfolding sensitivity_at sens_at flag_at
sensitivity_again claims nprim level fits =
    Again-as
    (Again-part _ (Again-symbol_length SENSITIVITY_LEN (length level.name) fits.len)
    (Again-part _ (Again-number_if SENSITIVITY_ISALIAS 4 level.isalias _ fits.isalias)
    (Again-part _ (Again-symbol_name SENSITIVITY_NAME claims level.name)
    (Again-part _ (Again-number_if SENSITIVITY_SENS 4 level.sens _ fits.sens)
    (Again-part _ (bitmap_again None level.categories fits.categories)
    (Again-done level))))))
    (simp (append_assoc, append-nil))

-- ---- categories

pub category_spelled : (claims : Claims) (nprim : ℕ) → IsReadFromSpelling (category_at claims nprim) spell_category CategoryFits
unfolding category_at value_at
category_spelled claims nprim =
    Reads-part (Reads-symbol_length CATEGORY_LEN) λ len len-fits.
    Reads-part (Reads-number_if CATEGORY_VALUE 4) λ value value-fits.
    Reads-part (Reads-number_if CATEGORY_ISALIAS 4) λ isalias isalias-fits.
    Reads-part (Reads-symbol_name CATEGORY_NAME claims len) λ name name-fits.
    Reads-done _ (record { value = value; isalias = isalias; name = name }) (record {
      same = rw (name-fits.0) (simp (append_assoc, append-nil));
      fitting = record { len = rw (name-fits.0) len-fits.0; value = value-fits.0; isalias = isalias-fits.0 };
    })

pub category_again : (claims : Claims) (nprim : ℕ) → IsReadAgain (category_at claims nprim) spell_category CategoryFits
unfolding category_at value_at
category_again claims nprim category fits =
    Again-as
    (Again-part _ (Again-symbol_length CATEGORY_LEN (length category.name) fits.len)
    (Again-part _ (Again-number_if CATEGORY_VALUE 4 category.value _ fits.value)
    (Again-part _ (Again-number_if CATEGORY_ISALIAS 4 category.isalias _ fits.isalias)
    (Again-part _ (Again-symbol_name CATEGORY_NAME claims category.name)
    (Again-done category)))))
    (simp (append_assoc, append-nil))
