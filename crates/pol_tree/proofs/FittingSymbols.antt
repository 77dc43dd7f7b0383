-- Classes and users fit.
use Rattle.std.proofs.Common.{ℕ, ◌<◌, ◌^◌, None, refl, arith}
use Rattle.std.proofs.lemmas.List.{length-append}
use Rattle.pol_cursor.proofs.Numbers.{length-bytes_of}
use Rattle.pol_bitmap.specs.Bitmap.{spell_bitmap, BitmapFits}
use Rattle.pol_constraints.specs.ConstraintRecord.{spell_constraint, ConstraintFits}
use Rattle.pol_commons.specs.PermissionRecord.{spell_permission, PermissionFits}
use Rattle.pol_classes.specs.declared.ClassRec.{ClassRec}
use Rattle.pol_classes.specs.ClassRecord.{spell_class, ClassFits}
use Rattle.pol_mls.specs.LevelRecord.{spell_level, LevelFits}
use Rattle.pol_mls.specs.RangeRecord.{spell_range, RangeFits}
use Rattle.pol_symbols.specs.declared.UserRec.{UserRec}
use Rattle.pol_symbols.specs.UserRecord.{spell_user, UserFits}
use Rattle.pol_tree.specs.RecordShapes.{shape_of_range, shape_of_constraint, shape_of_class, shape_of_user}
use Rattle.pol_tree.specs.Inner.Fitting.{IsFitting, AreFitting}
use Rattle.pol_tree.proofs.Wrongs.{none_each, none_in}

pub class_fits : (version : ℕ) (class : ClassRec) → class.value < 2 ^ 32 → class.nprim < 2 ^ 32 → class.default_user < 2 ^ 32 → class.default_role < 2 ^ 32 → class.default_range < 2 ^ 32 → class.default_type < 2 ^ 32
    → AreFitting (λ x. None) PermissionFits spell_permission class.permissions → AreFitting (shape_of_constraint version) (ConstraintFits version) spell_constraint class.constraints
    → AreFitting (shape_of_constraint version) (ConstraintFits version) spell_constraint class.validatetrans → IsFitting (shape_of_class version) (ClassFits version) spell_class class
class_fits version class value nprim default_user default_role default_range default_type permissions constraints validatetrans = record {
  some = simp length-append (omega (arith, length-bytes_of 4 class.value));
  fitting = λ right few.
      let each = simp length-append at few in
      let rights = none_each _ _ right in
      let own = permissions.fitting (none_in class.permissions) (omega (arith, each)) in
      let list = constraints.fitting rights.0 (omega (arith, each)) in
      record {
        head = record { len = omega (arith, each); common_len = omega (arith, each); value = value; nprim = nprim; nel = own.count; ncons = list.count };
        permissions = own.items;
        constraints = list.items;
        validatetrans = validatetrans.fitting (none_each _ _ rights.1).0 (omega (arith, each));
        default_user = default_user;
        default_role = default_role;
        default_range = default_range;
        default_type = default_type;
      };
}

pub user_fits : (user : UserRec) → user.value < 2 ^ 32 → user.bounds < 2 ^ 32 → IsFitting (λ x. None) BitmapFits spell_bitmap user.roles → IsFitting shape_of_range RangeFits spell_range user.range
    → IsFitting (λ x. None) LevelFits spell_level user.level → IsFitting shape_of_user UserFits spell_user user
user_fits user value bounds roles range level = record {
  some = simp length-append (omega (arith, length-bytes_of 4 user.value));
  fitting = λ right few.
      let each = simp length-append at few in
      record {
        len = omega (arith, each);
        value = value;
        bounds = bounds;
        roles = roles.fitting refl (simp length-append (omega (arith, each)));
        range = range.fitting right (simp length-append (omega (arith, each)));
        level = level.fitting refl (simp length-append (omega (arith, each)));
      };
}
