-- The records of the symbol tables fit, but for classes and users.
use Rattle.std.proofs.Common.{◌<◌, ◌^◌, None, refl, arith}
use Rattle.std.proofs.lemmas.List.{length-append}
use Rattle.pol_cursor.proofs.Numbers.{length-bytes_of}
use Rattle.pol_bitmap.specs.Bitmap.{spell_bitmap, BitmapFits}
use Rattle.pol_commons.specs.declared.PermissionRec.{PermissionRec}
use Rattle.pol_commons.specs.declared.CommonRec.{CommonRec}
use Rattle.pol_commons.specs.PermissionRecord.{spell_permission, PermissionFits}
use Rattle.pol_commons.specs.CommonRecord.{spell_common, CommonFits}
use Rattle.pol_datums.specs.declared.RoleRec.{RoleRec}
use Rattle.pol_datums.specs.declared.TypeRec.{TypeRec}
use Rattle.pol_datums.specs.declared.BooleanRec.{BooleanRec}
use Rattle.pol_datums.specs.declared.SensitivityRec.{SensitivityRec}
use Rattle.pol_datums.specs.declared.CategoryRec.{CategoryRec}
use Rattle.pol_datums.specs.RoleRecord.{spell_role, RoleFits}
use Rattle.pol_datums.specs.TypeRecord.{spell_type, TypeFits}
use Rattle.pol_datums.specs.BooleanRecord.{spell_boolean, BooleanFits}
use Rattle.pol_datums.specs.SensitivityRecord.{spell_sensitivity, SensitivityFits}
use Rattle.pol_datums.specs.CategoryRecord.{spell_category, CategoryFits}
use Rattle.pol_tree.specs.Inner.Fitting.{IsFitting, AreFitting}
use Rattle.pol_tree.proofs.Wrongs.{none_in}

pub permission_fits : (permission : PermissionRec) → permission.value < 2 ^ 32 → IsFitting (λ x. None) PermissionFits spell_permission permission
permission_fits permission value = record {
  some = simp length-append (omega (arith, length-bytes_of 4 permission.value));
  fitting = λ right few.
      let each = simp length-append at few in
      record {
        len = omega (arith, each);
        value = value;
      };
}

pub common_fits : (common : CommonRec) → common.value < 2 ^ 32 → common.nprim < 2 ^ 32 → AreFitting (λ x. None) PermissionFits spell_permission common.permissions → IsFitting (λ x. None) CommonFits spell_common common
common_fits common value nprim permissions = record {
  some = simp length-append (omega (arith, length-bytes_of 4 common.value));
  fitting = λ right few.
      let each = simp length-append at few in
      let list = permissions.fitting (none_in common.permissions) (omega (arith, each)) in
      record {
        len = omega (arith, each);
        value = value;
        nprim = nprim;
        count = list.count;
        permissions = list.items;
      };
}

pub role_fits : (role : RoleRec) → role.value < 2 ^ 32 → role.bounds < 2 ^ 32 → IsFitting (λ x. None) BitmapFits spell_bitmap role.dominates → IsFitting (λ x. None) BitmapFits spell_bitmap role.types → IsFitting (λ x. None) RoleFits spell_role role
role_fits role value bounds dominates types = record {
  some = simp length-append (omega (arith, length-bytes_of 4 role.value));
  fitting = λ right few.
      let each = simp length-append at few in
      record {
        len = omega (arith, each);
        value = value;
        bounds = bounds;
        dominates = dominates.fitting refl (simp length-append (omega (arith, each)));
        types = types.fitting refl (simp length-append (omega (arith, each)));
      };
}

pub type_fits : (t : TypeRec) → t.value < 2 ^ 32 → t.properties < 2 ^ 32 → t.bounds < 2 ^ 32 → IsFitting (λ x. None) TypeFits spell_type t
type_fits t value properties bounds = record {
  some = simp length-append (omega (arith, length-bytes_of 4 t.value));
  fitting = λ right few.
      let each = simp length-append at few in
      record {
        len = omega (arith, each);
        value = value;
        properties = properties;
        bounds = bounds;
      };
}

pub boolean_fits : (boolean : BooleanRec) → boolean.value < 2 ^ 32 → boolean.state < 2 ^ 32 → IsFitting (λ x. None) BooleanFits spell_boolean boolean
boolean_fits boolean value state = record {
  some = simp length-append (omega (arith, length-bytes_of 4 boolean.value));
  fitting = λ right few.
      let each = simp length-append at few in
      record {
        value = value;
        state = state;
        len = omega (arith, each);
      };
}

pub sensitivity_fits : (level : SensitivityRec) → level.isalias < 2 ^ 32 → level.sens < 2 ^ 32 → IsFitting (λ x. None) BitmapFits spell_bitmap level.categories → IsFitting (λ x. None) SensitivityFits spell_sensitivity level
sensitivity_fits level isalias sens categories = record {
  some = simp length-append (omega (arith, length-bytes_of 4 level.sens));
  fitting = λ right few.
      let each = simp length-append at few in
      record {
        len = omega (arith, each);
        isalias = isalias;
        sens = sens;
        categories = categories.fitting refl (simp length-append (omega (arith, each)));
      };
}

pub category_fits : (category : CategoryRec) → category.value < 2 ^ 32 → category.isalias < 2 ^ 32 → IsFitting (λ x. None) CategoryFits spell_category category
category_fits category value isalias = record {
  some = simp length-append (omega (arith, length-bytes_of 4 category.value));
  fitting = λ right few.
      let each = simp length-append at few in
      record {
        len = omega (arith, each);
        value = value;
        isalias = isalias;
      };
}
