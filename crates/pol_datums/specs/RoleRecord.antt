-- Record 8: a role (libsepol's role_read).
use Rattle.std.specs.Prelude.{ℕ, ◌+◌, ◌<◌, ◌^◌, None, List, ◌++◌, length, take, drop}
use Rattle.pol_fields.specs.declared.table_kind.TableKind.TheVariants.{Roles}
use Rattle.pol_fields.specs.declared.fields.TheConstants.{ROLE_LEN, ROLE_VALUE, ROLE_BOUNDS, ROLE_NAME}
use Rattle.pol_cursor.specs.Outcome.{Reader, ◌>>=◌, done}
use Rattle.pol_cursor.specs.Parts.{num}
use Rattle.pol_cursor.specs.References.{Placed, Reference}
use Rattle.pol_cursor.specs.Spelling.{bytes_of}
use Rattle.pol_bitmap.specs.Bitmap.{bitmap_at, spell_bitmap, BitmapFits}
use Rattle.pol_bitmap.specs.Nodes.{bitmap_in, bitmap_size, HasBitmap}
use Rattle.pol_symtab.specs.Claims.{Claims}
use Rattle.pol_symtab.specs.SymbolFields.{symbol_length_at, symbol_name_at}
use Rattle.pol_datums.specs.declared.role_rec.RoleRec.{RoleRec}
use Rattle.pol_datums.specs.SymbolValues.{new_value_at, bounds_at}
use Rattle.pol_datums.specs.SymbolReferences.{bounds_reference}

-- ---- reading and spelling

unfoldable pub role_at : Claims → ℕ → Reader RoleRec
role_at claims nprim = do
  len ← symbol_length_at ROLE_LEN
  value ← new_value_at ROLE_VALUE nprim claims
  bounds ← bounds_at ROLE_BOUNDS
  name ← symbol_name_at ROLE_NAME claims len
  dominates ← bitmap_at None
  types ← bitmap_at None
  done (record { value = value; bounds = bounds; name = name; dominates = dominates; types = types })

abbrev pub spell_role : RoleRec → List ℕ
spell_role role =
    bytes_of 4 (length role.name) ++ bytes_of 4 role.value ++ bytes_of 4 role.bounds ++ role.name ++ spell_bitmap role.dominates
    ++ spell_bitmap role.types

-- the length and the numbers of a role fit their fields
pub record RoleFits (role : RoleRec) : Type 0 where
  pub len : length role.name < 2 ^ 32
  pub value : role.value < 2 ^ 32
  pub bounds : role.bounds < 2 ^ 32
  pub dominates : BitmapFits role.dominates
  pub types : BitmapFits role.types

-- ---- the role that stands at a place

-- where its bitmaps stand
abbrev pub dominates_place : List ℕ → ℕ → ℕ
dominates_place bytes place = place + 12 + num bytes place 4

abbrev pub types_place : List ℕ → ℕ → ℕ
types_place bytes place = dominates_place bytes place + bitmap_size bytes (dominates_place bytes place)

abbrev pub role_in : List ℕ → ℕ → RoleRec
role_in bytes place = record {
  value = num bytes (place + 4) 4;
  bounds = num bytes (place + 8) 4;
  name = take (num bytes place 4) (drop (place + 12) bytes);
  dominates = bitmap_in bytes (dominates_place bytes place);
  types = bitmap_in bytes (types_place bytes place);
}

-- a role stands there, in a buffer of a policy's size
abbrev pub HasRole : List ℕ → ℕ → Type 0
HasRole bytes place = HasBitmap bytes (dominates_place bytes place) × HasBitmap bytes (types_place bytes place)

-- ---- what it names

-- the role that bounds it
abbrev pub role_references : Placed RoleRec → List Reference
role_references role = bounds_reference (record { place = role.place + 8; field = ROLE_BOUNDS; table = Roles; value = role.value.bounds })
