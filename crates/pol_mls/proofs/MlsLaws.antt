-- The two laws of levels and ranges.
use Rattle.std.proofs.Common.{[], subst, Bool, Option, Some, None, List, ◌<◌, ◌^◌, ◌≡◌, ℕ, refl, sym, append_assoc}
use Rattle.std.proofs.lemmas.List.{append-nil}
use Rattle.std.specs.Prelude.{◌==◌, option_map}
use Rattle.pol_fields.specs.declared.fields.TheConstants.{LEVEL_SENS, RANGE_N, RANGE_LOW, RANGE_HIGH}
use Rattle.pol_cursor.specs.Outcome.{done}
use Rattle.pol_cursor.specs.Parts.{spell_optional, OptionFits}
use Rattle.pol_cursor.specs.Spelling.{bytes_of}
use Rattle.pol_cursor.specs.Laws.{Again, IsReadAgain, IsReadFromSpelling}
use Rattle.pol_cursor.proofs.Laws.{Reads-done, Reads-part, Reads-number, Reads-number_if, Reads-optional, Again-done, Again-part, Again-as, Again-number, Again-number_if, Again-optional}
use Rattle.pol_bitmap.specs.declared.node.Node.{Node}
use Rattle.pol_bitmap.specs.Bitmap.{spell_bitmap, BitmapFits}
use Rattle.pol_bitmap.proofs.Laws.{bitmap_spelled, bitmap_again}
use Rattle.pol_mls.specs.declared.level_rec.LevelRec.{LevelRec}
use Rattle.pol_mls.specs.LevelRecord.{level_at, spell_level, LevelFits}
use Rattle.pol_mls.specs.RangeRecord.{level_of, range_at, spell_range, RangeFits}

-- ---- levels

pub level_spelled : IsReadFromSpelling level_at spell_level LevelFits
unfolding level_at
level_spelled =
    Reads-part (Reads-number LEVEL_SENS 4) λ sens sens-fits.
    Reads-part (bitmap_spelled None) λ categories categories-fits.
    Reads-done _ (record { sens = sens; categories = categories }) (record {
      same = simp (append_assoc, append-nil);
      fitting = record { sens = sens-fits; categories = categories-fits };
    })

pub level_again : IsReadAgain level_at spell_level LevelFits
unfolding level_at
level_again level fits =
    Again-as
    (Again-part _ (Again-number LEVEL_SENS 4 level.sens fits.sens)
    (Again-part _ (bitmap_again None level.categories fits.categories)
    (Again-done level)))
    (simp (append_assoc, append-nil))

-- ---- the two parts of a high level

spelled_sens : (there : Bool) (high : Option ℕ) (categories : Option (List Node)) → OptionFits there (λ n. n < 256 ^ 4) high → OptionFits there BitmapFits categories → spell_optional (bytes_of 4) high ≡ spell_optional (λ level. bytes_of 4 level.sens) (level_of high categories)
spelled_sens there (Some n) (Some ns) h k = refl
spelled_sens there (Some n) None h k = absurd (let e = h.0 in cc)
spelled_sens there None categories h k = refl

spelled_categories : (there : Bool) (high : Option ℕ) (categories : Option (List Node)) → OptionFits there (λ n. n < 256 ^ 4) high → OptionFits there BitmapFits categories → spell_optional spell_bitmap categories ≡ spell_optional (λ level. spell_bitmap level.categories) (level_of high categories)
spelled_categories there (Some n) (Some ns) h k = refl
spelled_categories there (Some n) None h k = refl
spelled_categories there None (Some ns) h k = absurd (let e = k.0 in cc)
spelled_categories there None None h k = refl

level_fits : (there : Bool) (high : Option ℕ) (categories : Option (List Node)) → OptionFits there (λ n. n < 256 ^ 4) high → OptionFits there BitmapFits categories → OptionFits there LevelFits (level_of high categories)
level_fits there (Some n) (Some ns) h k = (h.0, record { sens = h.1; categories = k.1 })
level_fits there (Some n) None h k = k
level_fits there None categories h k = h

-- a high level by its parts
sens_fits : (there : Bool) (high : Option LevelRec) → OptionFits there LevelFits high → OptionFits there (λ n. n < 256 ^ 4) (option_map (λ level. level.sens) high)
sens_fits there None h = h
sens_fits there (Some level) h = (h.0, h.1.sens)

categories_fit : (there : Bool) (high : Option LevelRec) → OptionFits there LevelFits high → OptionFits there BitmapFits (option_map (λ level. level.categories) high)
categories_fit there None h = h
categories_fit there (Some level) h = (h.0, h.1.categories)

spelled_part : {A : Type 0} (part : LevelRec → A) (spell : A → List ℕ) (high : Option LevelRec) → spell_optional spell (option_map part high) ≡ spell_optional (λ level. spell (part level)) high
spelled_part part spell None = refl
spelled_part part spell (Some level) = refl

level_of_parts : (high : Option LevelRec) → level_of (option_map (λ level. level.sens) high) (option_map (λ level. level.categories) high) ≡ high
level_of_parts None = refl
level_of_parts (Some level) = refl

-- ---- ranges

pub range_spelled : IsReadFromSpelling range_at spell_range RangeFits
unfolding range_at
range_spelled =
    Reads-part (Reads-number_if RANGE_N 4) λ n n-fits.
    Reads-part (Reads-number RANGE_LOW 4) λ low low-fits.
    Reads-part (Reads-optional (n == 2) (Reads-number RANGE_HIGH 4)) λ high high-is.
    Reads-part (bitmap_spelled None) λ low_categories low_categories-fits.
    Reads-part (Reads-optional (n == 2) (bitmap_spelled None)) λ high_categories more-is.
    Reads-done _ (record { n = n; low = low; low_categories = low_categories; high = level_of high high_categories }) (record {
      same = rw (spelled_sens (n == 2) high high_categories high-is more-is, spelled_categories (n == 2) high high_categories high-is more-is) (simp (append_assoc, append-nil));
      fitting = record { n = n-fits.0; low = low-fits; low_categories = low_categories-fits; high = level_fits (n == 2) high high_categories high-is more-is };
    })

pub range_again : IsReadAgain range_at spell_range RangeFits
unfolding range_at
range_again range fits =
    let whole : Again (done (record range { high = level_of (option_map (λ level. level.sens) range.high) (option_map (λ level. level.categories) range.high) })) range [] =
    subst (λ (high : Option LevelRec). Again (done (record range { high = high })) range []) (sym (level_of_parts range.high)) (Again-done range) in
    Again-as
    (Again-part _ (Again-number_if RANGE_N 4 range.n _ fits.n)
    (Again-part _ (Again-number RANGE_LOW 4 range.low fits.low)
    (Again-part _ (Again-optional (range.n == 2) (bytes_of 4) (λ n. n < 256 ^ 4) (option_map (λ level. level.sens) range.high) (λ n lt. Again-number RANGE_HIGH 4 n lt) (sens_fits (range.n == 2) range.high fits.high))
    (Again-part _ (bitmap_again None range.low_categories fits.low_categories)
    (Again-part _ (Again-optional (range.n == 2) spell_bitmap BitmapFits (option_map (λ level. level.categories) range.high) (bitmap_again None) (categories_fit (range.n == 2) range.high fits.high))
    whole)))))
    (rw (spelled_part (λ level. level.sens) (bytes_of 4) range.high, spelled_part (λ level. level.categories) spell_bitmap range.high) (simp (append_assoc, append-nil)))
