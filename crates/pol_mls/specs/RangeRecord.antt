-- Record 15: a range of MLS, which is a low level and may be a high one (libsepol's mls_read_range_helper).
use Rattle.std.specs.Prelude.{ℕ, ◌+◌, ◌*◌, ◌^◌, ◌<◌, ◌≡◌, ◌==◌, ◌||◌, Bool, true, false, Option, Some, None, List, [], ◌∷◌, ◌++◌, length, if◌then◌else◌}
use Rattle.pol_fields.specs.declared.fault.Cause.{Cause}
use Rattle.pol_fields.specs.declared.fault.Cause.TheVariants.{BadRange}
use Rattle.pol_fields.specs.declared.table_kind.TableKind.TheVariants.{Levels}
use Rattle.pol_fields.specs.declared.fields.TheConstants.{RANGE_N, RANGE_LOW, RANGE_HIGH}
use Rattle.pol_cursor.specs.Outcome.{Reader, ◌>>=◌, done}
use Rattle.pol_cursor.specs.Parts.{num, number, number_if, unless, optional, spell_optional, OptionFits}
use Rattle.pol_cursor.specs.References.{Placed, Reference}
use Rattle.pol_cursor.specs.Spelling.{bytes_of}
use Rattle.pol_bitmap.specs.declared.node.Node.{Node}
use Rattle.pol_bitmap.specs.Bitmap.{bitmap_at, spell_bitmap, BitmapFits}
use Rattle.pol_bitmap.specs.Nodes.{bitmap_in, bitmap_size, HasBitmap}
use Rattle.pol_mls.specs.declared.level_rec.LevelRec.{LevelRec}
use Rattle.pol_mls.specs.declared.range_rec.RangeRec.{RangeRec}
use Rattle.pol_mls.specs.LevelRecord.{LevelFits, level_length}

-- ---- reading and spelling

-- A range has one level or two.
abbrev pub n_test : ℕ → Option Cause
n_test n = unless (n == 1 || n == 2) BadRange

-- the high level of its two parts, which come together
abbrev pub level_of : Option ℕ → Option (List Node) → Option LevelRec
level_of (Some sens) (Some categories) = Some (record { sens = sens; categories = categories })
level_of (Some sens) None = None
level_of None categories = None

-- Both numbers stand before both bitmaps.
unfoldable pub range_at : Reader RangeRec
range_at = do
  n ← number_if RANGE_N 4 n_test
  low ← number RANGE_LOW 4
  high ← optional (n == 2) (number RANGE_HIGH 4)
  low_categories ← bitmap_at None
  high_categories ← optional (n == 2) (bitmap_at None)
  done (record { n = n; low = low; low_categories = low_categories; high = level_of high high_categories })

abbrev pub spell_range : RangeRec → List ℕ
spell_range range =
    bytes_of 4 range.n ++ bytes_of 4 range.low ++ spell_optional (λ level. bytes_of 4 level.sens) range.high ++ spell_bitmap range.low_categories
    ++ spell_optional (λ level. spell_bitmap level.categories) range.high

-- The numbers of a range fit their fields, and it has a high level exactly where n is 2.
pub record RangeFits (range : RangeRec) : Type 0 where
  pub n : range.n < 2 ^ 32
  pub low : range.low < 2 ^ 32
  pub low_categories : BitmapFits range.low_categories
  pub high : OptionFits (range.n == 2) LevelFits range.high

-- ---- the range that stands at a place

-- whether it has a high level
abbrev pub has_high : List ℕ → ℕ → Bool
has_high bytes place = num bytes place 4 == 2

-- where its bitmaps stand
abbrev pub low_place : List ℕ → ℕ → ℕ
low_place bytes place = if has_high bytes place then place + 12 else place + 8

abbrev pub high_place : List ℕ → ℕ → ℕ
high_place bytes place = low_place bytes place + bitmap_size bytes (low_place bytes place)

abbrev pub range_in : List ℕ → ℕ → RangeRec
range_in bytes place = record {
  n = num bytes place 4;
  low = num bytes (place + 4) 4;
  low_categories = bitmap_in bytes (low_place bytes place);
  high = if has_high bytes place then Some (record { sens = num bytes (place + 8) 4; categories = bitmap_in bytes (high_place bytes place) }) else None;
}

-- how many bytes a high level takes
abbrev pub high_length : Option LevelRec → ℕ
high_length None = 0
high_length (Some level) = level_length level

-- how many bytes a range takes
abbrev pub range_length : RangeRec → ℕ
range_length range = 20 + 12 * length range.low_categories + high_length range.high

-- the place behind the one there
abbrev pub range_end : List ℕ → ℕ → ℕ
range_end bytes place = high_place bytes place + (if has_high bytes place then bitmap_size bytes (high_place bytes place) else 0)

-- a bitmap stands there, where there has to be one
abbrev pub HasBitmapIf : Bool → List ℕ → ℕ → Type 0
HasBitmapIf true bytes place = HasBitmap bytes place
HasBitmapIf false bytes place = Unit {0}

-- a range stands there, in a buffer of a policy's size
abbrev pub HasRange : List ℕ → ℕ → Type 0
HasRange bytes place = (n_test (num bytes place 4) ≡ None) × HasBitmap bytes (low_place bytes place) × HasBitmapIf (has_high bytes place) bytes (high_place bytes place)

-- ---- what it names

abbrev pub high_references : ℕ → Option LevelRec → List Reference
high_references place None = []
high_references place (Some level) = record { place = place; field = RANGE_HIGH; table = Levels; value = level.sens } ∷ []

-- the low sensitivity, and then the high one
abbrev pub range_references : Placed RangeRec → List Reference
range_references range = record { place = range.place + 4; field = RANGE_LOW; table = Levels; value = range.value.low } ∷ high_references (range.place + 8) range.value.high
