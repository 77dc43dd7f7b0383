-- Record 14: a level of MLS, which is a sensitivity and a set of categories (libsepol's mls_read_level).
use Rattle.std.specs.Prelude.{ℕ, ◌+◌, ◌*◌, ◌^◌, ◌<◌, None, List, [], ◌∷◌, ◌++◌, length}
use Rattle.pol_fields.specs.declared.table_kind.TableKind.TheVariants.{Levels}
use Rattle.pol_fields.specs.declared.fields.TheConstants.{LEVEL_SENS}
use Rattle.pol_cursor.specs.Outcome.{Reader, ◌>>=◌, done}
use Rattle.pol_cursor.specs.Parts.{num, number}
use Rattle.pol_cursor.specs.References.{Placed, Reference}
use Rattle.pol_cursor.specs.Spelling.{bytes_of}
use Rattle.pol_bitmap.specs.Bitmap.{bitmap_at, spell_bitmap, BitmapFits}
use Rattle.pol_bitmap.specs.Nodes.{bitmap_in, bitmap_size, HasBitmap}
use Rattle.pol_mls.specs.declared.level_rec.LevelRec.{LevelRec}

-- ---- reading and spelling

unfoldable pub level_at : Reader LevelRec
level_at = do
  sens ← number LEVEL_SENS 4
  categories ← bitmap_at None
  done (record { sens = sens; categories = categories })

abbrev pub spell_level : LevelRec → List ℕ
spell_level level = bytes_of 4 level.sens ++ spell_bitmap level.categories

-- the numbers of a level fit their fields
pub record LevelFits (level : LevelRec) : Type 0 where
  pub sens : level.sens < 2 ^ 32
  pub categories : BitmapFits level.categories

-- ---- the level that stands at a place

abbrev pub level_in : List ℕ → ℕ → LevelRec
level_in bytes place = record { sens = num bytes place 4; categories = bitmap_in bytes (place + 4) }

-- how many bytes a level takes
abbrev pub level_length : LevelRec → ℕ
level_length level = 16 + 12 * length level.categories

-- the same of the one there
abbrev pub level_size : List ℕ → ℕ → ℕ
level_size bytes place = 4 + bitmap_size bytes (place + 4)

-- a level stands there, in a buffer of a policy's size
abbrev pub HasLevel : List ℕ → ℕ → Type 0
HasLevel bytes place = HasBitmap bytes (place + 4)

-- ---- what it names

-- the sensitivity
abbrev pub level_references : Placed LevelRec → List Reference
level_references level = record { place = level.place; field = LEVEL_SENS; table = Levels; value = level.value.sens } ∷ []
