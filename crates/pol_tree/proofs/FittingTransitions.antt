-- The transitions and the role allows fit.
use Rattle.std.proofs.Common.{◌<◌, ◌^◌, None, refl, arith}
use Rattle.std.proofs.lemmas.List.{length-append}
use Rattle.pol_cursor.proofs.Numbers.{length-bytes_of}
use Rattle.pol_bitmap.specs.Bitmap.{spell_bitmap, BitmapFits}
use Rattle.pol_mls.specs.RangeRecord.{spell_range, RangeFits}
use Rattle.pol_trans.specs.declared.RoleTransRec.{RoleTransRec}
use Rattle.pol_trans.specs.declared.RoleAllowRec.{RoleAllowRec}
use Rattle.pol_trans.specs.declared.NameTransRec.{NameTransRec}
use Rattle.pol_trans.specs.declared.NameDatumRec.{NameDatumRec}
use Rattle.pol_trans.specs.declared.NameGroupRec.{NameGroupRec}
use Rattle.pol_trans.specs.declared.RangeTransRec.{RangeTransRec}
use Rattle.pol_trans.specs.RoleTransRecord.{spell_role_trans, RoleTransFits}
use Rattle.pol_trans.specs.RoleAllowRecord.{spell_role_allow, RoleAllowFits}
use Rattle.pol_trans.specs.NameTransRecord.{spell_name_trans, NameTransFits}
use Rattle.pol_trans.specs.NameGroupRecord.{spell_name_datum, NameDatumFits, spell_name_group, NameGroupFits}
use Rattle.pol_trans.specs.RangeTransRecord.{spell_range_trans, RangeTransFits}
use Rattle.pol_tree.specs.RecordShapes.{shape_of_range, shape_of_range_trans}
use Rattle.pol_tree.specs.Inner.Fitting.{IsFitting, AreFitting}
use Rattle.pol_tree.proofs.Wrongs.{none_in}

pub role_trans_fits : (trans : RoleTransRec) → trans.role < 2 ^ 32 → trans.type_value < 2 ^ 32 → trans.newrole < 2 ^ 32 → trans.class < 2 ^ 32 → IsFitting (λ x. None) RoleTransFits spell_role_trans trans
role_trans_fits trans role type_value newrole class = record {
  some = simp length-append (omega (arith, length-bytes_of 4 trans.role));
  fitting = λ right few.
      let each = simp length-append at few in
      record {
        role = role;
        type_value = type_value;
        newrole = newrole;
        class = class;
      };
}

pub role_allow_fits : (allow : RoleAllowRec) → allow.role < 2 ^ 32 → allow.newrole < 2 ^ 32 → IsFitting (λ x. None) RoleAllowFits spell_role_allow allow
role_allow_fits allow role newrole = record {
  some = simp length-append (omega (arith, length-bytes_of 4 allow.role));
  fitting = λ right few.
      let each = simp length-append at few in
      record {
        role = role;
        newrole = newrole;
      };
}

pub name_trans_fits : (trans : NameTransRec) → trans.source < 2 ^ 32 → trans.target < 2 ^ 32 → trans.class < 2 ^ 32 → trans.default < 2 ^ 32 → IsFitting (λ x. None) NameTransFits spell_name_trans trans
name_trans_fits trans source target class default = record {
  some = simp length-append (omega (arith, length-bytes_of 4 trans.source));
  fitting = λ right few.
      let each = simp length-append at few in
      record {
        len = omega (arith, each);
        source = source;
        target = target;
        class = class;
        default = default;
      };
}

pub name_datum_fits : (datum : NameDatumRec) → IsFitting (λ x. None) BitmapFits spell_bitmap datum.sources → datum.default < 2 ^ 32 → IsFitting (λ x. None) NameDatumFits spell_name_datum datum
name_datum_fits datum sources default = record {
  some = simp length-append (omega (arith, length-bytes_of 4 datum.default));
  fitting = λ right few.
      let each = simp length-append at few in
      record {
        sources = sources.fitting refl (simp length-append (omega (arith, each)));
        default = default;
      };
}

pub name_group_fits : (group : NameGroupRec) → group.target < 2 ^ 32 → group.class < 2 ^ 32 → AreFitting (λ x. None) NameDatumFits spell_name_datum group.datums → IsFitting (λ x. None) NameGroupFits spell_name_group group
name_group_fits group target class datums = record {
  some = simp length-append (omega (arith, length-bytes_of 4 group.target));
  fitting = λ right few.
      let each = simp length-append at few in
      record {
        len = omega (arith, each);
        target = target;
        class = class;
        datums = datums.fitting (none_in group.datums) (omega (arith, each));
      };
}

pub range_trans_fits : (trans : RangeTransRec) → trans.source < 2 ^ 32 → trans.target < 2 ^ 32 → trans.class < 2 ^ 32 → IsFitting shape_of_range RangeFits spell_range trans.range → IsFitting shape_of_range_trans RangeTransFits spell_range_trans trans
range_trans_fits trans source target class range = record {
  some = simp length-append (omega (arith, length-bytes_of 4 trans.source));
  fitting = λ right few.
      let each = simp length-append at few in
      record {
        source = source;
        target = target;
        class = class;
        range = range.fitting right (simp length-append (omega (arith, each)));
      };
}
