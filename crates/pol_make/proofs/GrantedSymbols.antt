-- The records of symbol tables are read where no condition refuses them.
use Rattle.std.proofs.Common.{◌≡◌, ℕ, ◌^◌, ◌<◌, ◌≤◌, Bool, true, false, cond, not, None, Some, List, length, refl, append_assoc, arith}
use Rattle.std.specs.Prelude.{◌&&◌, nat_le, nat_lt}
use Rattle.std.specs.List.{list_all}
use Rattle.std.proofs.lemmas.Bool.{and_parts, le-leb, leb-true, ltb-true}
use Rattle.std.proofs.lemmas.List.{append-nil}
use Rattle.pol_fields.specs.declared.Cause.{Cause}
use Rattle.pol_fields.specs.declared.field.Field.{Field}
use Rattle.pol_fields.specs.declared.fields.TheConstants.{ROLE_LEN, ROLE_VALUE, ROLE_BOUNDS, ROLE_NAME, TYPE_LEN, TYPE_VALUE, TYPE_PROPERTIES, TYPE_BOUNDS, TYPE_NAME, BOOLEAN_VALUE, BOOLEAN_STATE, BOOLEAN_LEN, BOOLEAN_NAME, SENSITIVITY_LEN, SENSITIVITY_ISALIAS, SENSITIVITY_NAME, SENSITIVITY_SENS, CATEGORY_LEN, CATEGORY_VALUE, CATEGORY_ISALIAS, CATEGORY_NAME}
use Rattle.pol_cursor.specs.Spelling.{bytes_of}
use Rattle.pol_bitmap.specs.Bitmap.{bitmap_at, spell_bitmap}
use Rattle.pol_symtab.specs.Claims.{Claims, has_name, has_value}
use Rattle.pol_symtab.specs.SymbolFields.{symbol_length_at, symbol_name_at, name_test, new_value_test, is_name_byte}
use Rattle.pol_datums.specs.SymbolValues.{value_at, new_value_at, bounds_at}
use Rattle.pol_datums.specs.Flags.{flag_at, is_primary_flag}
use Rattle.pol_datums.specs.declared.RoleRec.{RoleRec}
use Rattle.pol_datums.specs.declared.TypeRec.{TypeRec}
use Rattle.pol_datums.specs.declared.BooleanRec.{BooleanRec}
use Rattle.pol_datums.specs.declared.SensitivityRec.{SensitivityRec}
use Rattle.pol_datums.specs.declared.CategoryRec.{CategoryRec}
use Rattle.pol_datums.specs.RoleRecord.{role_at, spell_role, RoleFits}
use Rattle.pol_datums.specs.TypeRecord.{type_at, spell_type, TypeFits, is_primary_type}
use Rattle.pol_datums.specs.BooleanRecord.{boolean_at, spell_boolean, BooleanFits}
use Rattle.pol_datums.specs.SensitivityRecord.{sensitivity_at, sens_at, spell_sensitivity, SensitivityFits}
use Rattle.pol_datums.specs.CategoryRecord.{category_at, spell_category, CategoryFits}
use Rattle.pol_moved.proofs.Granted.{GrantsOf, grants-done, grants-then, grants-as, grants-number, grants-number_if, grants-string_if}
use Rattle.pol_make.proofs.NumberedNames.{IsName}

-- a record of that name and value may stand behind those that have taken the claims
pub record MayStand (claims : Claims) (nprim : ℕ) (name : List ℕ) (value : ℕ) : Type 0 where
  pub is_name : IsName name
  pub name_is_new : has_name claims name ≡ false
  pub least : 1 ≤ value
  pub most : value ≤ nprim
  pub value_is_new : has_value claims value ≡ false

-- ---- names and values that are written out

-- the same as a test, which computes for a name that is written out
abbrev pub is_name : List ℕ → Bool
is_name name = nat_le 1 (length name) && (nat_lt (length name) (2 ^ 32) && list_all is_name_byte name)

abbrev pub may_stand : Claims → ℕ → List ℕ → ℕ → Bool
may_stand claims nprim name value = is_name name && (not (has_name claims name) && (nat_le 1 value && (nat_le value nprim && not (has_value claims value))))

not-true : (b : Bool) → not b ≡ true → b ≡ false
not-true true e = absurd (cc)
not-true false e = refl

name-so : (name : List ℕ) → is_name name ≡ true → IsName name
name-so name e =
    let p = and_parts (nat_le 1 (length name)) (nat_lt (length name) (2 ^ 32) && list_all is_name_byte name) e in
    let q = and_parts (nat_lt (length name) (2 ^ 32)) (list_all is_name_byte name) p.1 in
    record { some = leb-true 1 (length name) p.0; short = ltb-true (length name) (2 ^ 32) q.0; bytes = q.1 }

pub stands-so : (claims : Claims) (nprim : ℕ) (name : List ℕ) (value : ℕ) → may_stand claims nprim name value ≡ true → MayStand claims nprim name value
stands-so claims nprim name value e =
    let p = and_parts (is_name name) (not (has_name claims name) && (nat_le 1 value && (nat_le value nprim && not (has_value claims value)))) e in
    let q = and_parts (not (has_name claims name)) (nat_le 1 value && (nat_le value nprim && not (has_value claims value))) p.1 in
    let r = and_parts (nat_le 1 value) (nat_le value nprim && not (has_value claims value)) q.1 in
    let s = and_parts (nat_le value nprim) (not (has_value claims value)) r.1 in
    record {
      is_name = name-so name p.0;
      name_is_new = not-true (has_name claims name) q.0;
      least = leb-true 1 value r.0;
      most = leb-true value nprim s.0;
      value_is_new = not-true (has_value claims value) s.1;
    }

-- ---- the parts that symbols have

pub grants-length : (field : Field) (n : ℕ) → 1 ≤ n → n < 2 ^ 32 → GrantsOf (symbol_length_at field) n (bytes_of 4 n)
unfolding symbol_length_at
grants-length field n some fits = grants-number_if field 4 n _ fits (rw (le-leb 1 n some) refl)

pub grants-name : (field : Field) (claims : Claims) (name : List ℕ) → IsName name → has_name claims name ≡ false → GrantsOf (symbol_name_at field claims (length name)) name name
unfolding symbol_name_at
grants-name field claims name is new = grants-string_if field name (name_test claims) (rw (is.bytes, new) refl)

pub new_value-stands : (claims : Claims) (nprim value : ℕ) → 1 ≤ value → value ≤ nprim → has_value claims value ≡ false → new_value_test nprim claims value ≡ None
new_value-stands claims nprim value least most new = rw (le-leb 1 value least, le-leb value nprim most, new) refl

pub grants-new_value : (field : Field) (nprim : ℕ) (claims : Claims) (value : ℕ) → value < 2 ^ 32 → 1 ≤ value → value ≤ nprim → has_value claims value ≡ false → GrantsOf (new_value_at field nprim claims) value (bytes_of 4 value)
unfolding new_value_at
grants-new_value field nprim claims value fits least most new = grants-number_if field 4 value _ fits (new_value-stands claims nprim value least most new)

pub grants-value : (field : Field) (nprim value : ℕ) → value < 2 ^ 32 → 1 ≤ value → value ≤ nprim → GrantsOf (value_at field nprim) value (bytes_of 4 value)
unfolding value_at
grants-value field nprim value fits least most = grants-number_if field 4 value _ fits (rw (le-leb 1 value least, le-leb value nprim most) refl)

pub grants-bounds : (field : Field) (bounds : ℕ) → bounds < 2 ^ 32 → GrantsOf (bounds_at field) bounds (bytes_of 4 bounds)
unfolding bounds_at
grants-bounds field bounds fits = grants-number field 4 bounds fits

grants-flag : (field : Field) (flag : ℕ) → flag ≤ 1 → GrantsOf (flag_at field) flag (bytes_of 4 flag)
unfolding flag_at
grants-flag field flag fits = grants-number_if field 4 flag _ (omega arith) (rw (le-leb flag 1 fits) refl)

-- where the value is new, it is new for a primary record
new-primary : (primary taken : Bool) (cause : Cause) → taken ≡ false → cond (primary && taken) (Some cause) None ≡ None
new-primary true taken cause new = rw new refl
new-primary false taken cause new = refl

-- ---- the records

pub role-granted : (claims : Claims) (nprim : ℕ) (role : RoleRec) → RoleFits role → MayStand claims nprim role.name role.value → GrantsOf (bitmap_at None) role.dominates (spell_bitmap role.dominates) → GrantsOf (bitmap_at None) role.types (spell_bitmap role.types)
    → GrantsOf (role_at claims nprim) role (spell_role role)
unfolding role_at
role-granted claims nprim role fits may dominates types =
    grants-as
    (grants-then _ (grants-length ROLE_LEN (length role.name) may.is_name.some fits.len)
    (grants-then _ (grants-new_value ROLE_VALUE nprim claims role.value fits.value may.least may.most may.value_is_new)
    (grants-then _ (grants-bounds ROLE_BOUNDS role.bounds fits.bounds)
    (grants-then _ (grants-name ROLE_NAME claims role.name may.is_name may.name_is_new)
    (grants-then _ dominates
    (grants-then _ types
    (grants-done role refl)))))))
    (simp (append_assoc, append-nil))

pub type-granted : (claims : Claims) (nprim : ℕ) (t : TypeRec) → TypeFits t → MayStand claims nprim t.name t.value → GrantsOf (type_at claims nprim) t (spell_type t)
unfolding type_at
type-granted claims nprim t fits may =
    grants-as
    (grants-then _ (grants-length TYPE_LEN (length t.name) may.is_name.some fits.len)
    (grants-then _ (grants-value TYPE_VALUE nprim t.value fits.value may.least may.most)
    (grants-then _ (grants-number_if TYPE_PROPERTIES 4 t.properties _ fits.properties (new-primary (is_primary_type t.properties) (has_value claims t.value) _ may.value_is_new))
    (grants-then _ (grants-bounds TYPE_BOUNDS t.bounds fits.bounds)
    (grants-then _ (grants-name TYPE_NAME claims t.name may.is_name may.name_is_new)
    (grants-done t refl))))))
    (simp (append_assoc, append-nil))

pub boolean-granted : (claims : Claims) (nprim : ℕ) (boolean : BooleanRec) → BooleanFits boolean → MayStand claims nprim boolean.name boolean.value → boolean.state ≤ 1 → GrantsOf (boolean_at claims nprim) boolean (spell_boolean boolean)
unfolding boolean_at
boolean-granted claims nprim boolean fits may state =
    grants-as
    (grants-then _ (grants-new_value BOOLEAN_VALUE nprim claims boolean.value fits.value may.least may.most may.value_is_new)
    (grants-then _ (grants-flag BOOLEAN_STATE boolean.state state)
    (grants-then _ (grants-length BOOLEAN_LEN (length boolean.name) may.is_name.some fits.len)
    (grants-then _ (grants-name BOOLEAN_NAME claims boolean.name may.is_name may.name_is_new)
    (grants-done boolean refl)))))
    (simp (append_assoc, append-nil))

pub level-granted : (claims : Claims) (nprim : ℕ) (level : SensitivityRec) → SensitivityFits level → MayStand claims nprim level.name level.sens → level.isalias ≤ 1 → GrantsOf (bitmap_at None) level.categories (spell_bitmap level.categories) → GrantsOf (sensitivity_at claims nprim) level (spell_sensitivity level)
unfolding sensitivity_at sens_at
level-granted claims nprim level fits may isalias categories =
    grants-as
    (grants-then _ (grants-length SENSITIVITY_LEN (length level.name) may.is_name.some fits.len)
    (grants-then _ (grants-flag SENSITIVITY_ISALIAS level.isalias isalias)
    (grants-then _ (grants-name SENSITIVITY_NAME claims level.name may.is_name may.name_is_new)
    (grants-then _ (grants-number_if SENSITIVITY_SENS 4 level.sens _ fits.sens (rw (le-leb 1 level.sens may.least, le-leb level.sens nprim may.most) (new-primary (is_primary_flag level.isalias) (has_value claims level.sens) _ may.value_is_new)))
    (grants-then _ categories
    (grants-done level refl))))))
    (simp (append_assoc, append-nil))

pub category-granted : (claims : Claims) (nprim : ℕ) (category : CategoryRec) → CategoryFits category → MayStand claims nprim category.name category.value → category.isalias ≤ 1 → GrantsOf (category_at claims nprim) category (spell_category category)
unfolding category_at
category-granted claims nprim category fits may isalias =
    grants-as
    (grants-then _ (grants-length CATEGORY_LEN (length category.name) may.is_name.some fits.len)
    (grants-then _ (grants-value CATEGORY_VALUE nprim category.value fits.value may.least may.most)
    (grants-then _ (grants-number_if CATEGORY_ISALIAS 4 category.isalias _ fits.isalias (rw (le-leb category.isalias 1 isalias) (new-primary (is_primary_flag category.isalias) (has_value claims category.value) _ may.value_is_new)))
    (grants-then _ (grants-name CATEGORY_NAME claims category.name may.is_name may.name_is_new)
    (grants-done category refl)))))
    (simp (append_assoc, append-nil))
