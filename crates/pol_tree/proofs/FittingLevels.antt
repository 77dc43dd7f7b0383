-- Levels and ranges fit.
use Rattle.std.proofs.Common.{◌≡◌, ◌+◌, ◌<◌, ◌^◌, ◌==◌, Option, Some, None, length, refl, arith}
use Rattle.std.specs.Prelude.{IfSome}
use Rattle.std.proofs.lemmas.List.{length-append}
use Rattle.pol_fields.specs.declared.fields.TheConstants.{RANGE_HIGH}
use Rattle.pol_cursor.proofs.Numbers.{length-bytes_of}
use Rattle.pol_cursor.specs.Parts.{spell_optional}
use Rattle.pol_cursor.specs.Spelling.{bytes_of}
use Rattle.pol_bitmap.specs.Bitmap.{spell_bitmap, BitmapFits}
use Rattle.pol_mls.specs.declared.LevelRec.{LevelRec}
use Rattle.pol_mls.specs.declared.RangeRec.{RangeRec}
use Rattle.pol_mls.specs.LevelRecord.{spell_level, LevelFits}
use Rattle.pol_mls.specs.RangeRecord.{spell_range, RangeFits}
use Rattle.pol_tree.specs.RecordShapes.{shape_of_range}
use Rattle.pol_tree.specs.Inner.Fitting.{IsFitting}
use Rattle.pol_tree.proofs.FittingLists.{optional_fits}

pub level_fits : (level : LevelRec) → level.sens < 2 ^ 32 → IsFitting (λ x. None) BitmapFits spell_bitmap level.categories → IsFitting (λ x. None) LevelFits spell_level level
level_fits level sens categories = record {
  some = simp length-append (omega (arith, length-bytes_of 4 level.sens));
  fitting = λ right few.
      let each = simp length-append at few in
      record { sens = sens; categories = categories.fitting refl (simp length-append (omega (arith, each))) };
}

-- the two parts of a high level are as long as the level
high_length : (high : Option LevelRec) → length (spell_optional spell_level high) ≡ length (spell_optional (λ level. bytes_of 4 level.sens) high) + length (spell_optional (λ level. spell_bitmap level.categories) high)
high_length (Some level) = length-append (bytes_of 4 level.sens) (spell_bitmap level.categories)
high_length None = refl

pub range_fits : (range : RangeRec) → range.n < 2 ^ 32 → range.low < 2 ^ 32 → IsFitting (λ x. None) BitmapFits spell_bitmap range.low_categories → IfSome range.high (IsFitting (λ x. None) LevelFits spell_level)
    → IsFitting shape_of_range RangeFits spell_range range
range_fits range n low low_categories high = record {
  some = simp length-append (omega (arith, length-bytes_of 4 range.n));
  fitting = λ right few.
      let each = simp length-append at few in
      record {
        n = n;
        low = low;
        low_categories = low_categories.fitting refl (simp length-append (omega (arith, each)));
        high = optional_fits LevelFits spell_level (range.n == 2) range.high RANGE_HIGH high right (omega (arith, high_length range.high, each));
      };
}
