-- Record 10: a user, with its roles, its range and its default level (libsepol's user_read).
use Rattle.std.specs.Prelude.{ℕ, ◌+◌, ◌*◌, ◌<◌, ◌^◌, None, List, ◌++◌, length, take, drop}
use Rattle.pol_fields.specs.declared.table_kind.TableKind.TheVariants.{Users}
use Rattle.pol_fields.specs.declared.fields.TheConstants.{USER_LEN, USER_VALUE, USER_BOUNDS, USER_NAME}
use Rattle.pol_cursor.specs.Outcome.{Reader, ◌>>=◌, done}
use Rattle.pol_cursor.specs.Parts.{num}
use Rattle.pol_cursor.specs.References.{Placed, Reference}
use Rattle.pol_cursor.specs.Spelling.{bytes_of}
use Rattle.pol_bitmap.specs.Bitmap.{bitmap_at, spell_bitmap, BitmapFits}
use Rattle.pol_bitmap.specs.Nodes.{bitmap_in, bitmap_size, HasBitmap}
use Rattle.pol_mls.specs.LevelRecord.{level_at, spell_level, LevelFits, level_in, HasLevel, level_references}
use Rattle.pol_mls.specs.RangeRecord.{range_at, spell_range, RangeFits, range_in, range_length, range_end, HasRange, range_references}
use Rattle.pol_symtab.specs.Claims.{Claims}
use Rattle.pol_symtab.specs.SymbolFields.{symbol_length_at, symbol_name_at}
use Rattle.pol_datums.specs.SymbolValues.{new_value_at, bounds_at}
use Rattle.pol_datums.specs.SymbolReferences.{bounds_reference}
use Rattle.pol_symbols.specs.declared.user_rec.UserRec.{UserRec}

-- ---- reading and spelling

unfoldable pub user_at : Claims → ℕ → Reader UserRec
user_at claims nprim = do
  len ← symbol_length_at USER_LEN
  value ← new_value_at USER_VALUE nprim claims
  bounds ← bounds_at USER_BOUNDS
  name ← symbol_name_at USER_NAME claims len
  roles ← bitmap_at None
  range ← range_at
  level ← level_at
  done (record { value = value; bounds = bounds; name = name; roles = roles; range = range; level = level })

abbrev pub spell_user : UserRec → List ℕ
spell_user user =
    bytes_of 4 (length user.name) ++ bytes_of 4 user.value ++ bytes_of 4 user.bounds ++ user.name ++ spell_bitmap user.roles
    ++ spell_range user.range ++ spell_level user.level

-- the length and the numbers of a user fit their fields
pub record UserFits (user : UserRec) : Type 0 where
  pub len : length user.name < 2 ^ 32
  pub value : user.value < 2 ^ 32
  pub bounds : user.bounds < 2 ^ 32
  pub roles : BitmapFits user.roles
  pub range : RangeFits user.range
  pub level : LevelFits user.level

-- ---- the user that stands at a place

-- where its parts behind the name stand
abbrev pub roles_in_place : List ℕ → ℕ → ℕ
roles_in_place bytes place = place + 12 + num bytes place 4

abbrev pub range_in_place : List ℕ → ℕ → ℕ
range_in_place bytes place = roles_in_place bytes place + bitmap_size bytes (roles_in_place bytes place)

abbrev pub level_in_place : List ℕ → ℕ → ℕ
level_in_place bytes place = range_end bytes (range_in_place bytes place)

abbrev pub user_in : List ℕ → ℕ → UserRec
user_in bytes place = record {
  value = num bytes (place + 4) 4;
  bounds = num bytes (place + 8) 4;
  name = take (num bytes place 4) (drop (place + 12) bytes);
  roles = bitmap_in bytes (roles_in_place bytes place);
  range = range_in bytes (range_in_place bytes place);
  level = level_in bytes (level_in_place bytes place);
}

-- a user stands there, in a buffer of a policy's size
abbrev pub HasUser : List ℕ → ℕ → Type 0
HasUser bytes place = HasBitmap bytes (roles_in_place bytes place) × HasRange bytes (range_in_place bytes place) × HasLevel bytes (level_in_place bytes place)

-- ---- what it names

-- the places of its range and its level
abbrev pub range_place : Placed UserRec → ℕ
range_place user = user.place + 24 + length user.value.name + 12 * length user.value.roles

abbrev pub level_place : Placed UserRec → ℕ
level_place user = range_place user + range_length user.value.range

-- the sensitivities of its range and its level
abbrev pub level_mentions : Placed UserRec → List Reference
level_mentions user =
    range_references (record { place = range_place user; value = user.value.range })
    ++ level_references (record { place = level_place user; value = user.value.level })

-- the user that bounds it, and then those
abbrev pub user_references : Placed UserRec → List Reference
user_references user =
    bounds_reference (record { place = user.place + 8; field = USER_BOUNDS; table = Users; value = user.value.bounds })
    ++ level_mentions user
