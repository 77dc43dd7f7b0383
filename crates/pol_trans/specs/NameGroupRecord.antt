-- Record 23: a group of file-name transitions with one name, target and class, which version 33 brought. Each of its data has the
-- sources and the default type that objects of theirs have (libsepol's filename_trans_read_one).
use Rattle.std.specs.Prelude.{ℕ, ◌+◌, ◌*◌, ◌^◌, ◌<◌, ◌≤◌, None, List, ◌∷◌, ◌++◌, length, map}
use Rattle.pol_fields.specs.declared.limits.TheConstants.{MAX_POLICY_BYTES}
use Rattle.pol_fields.specs.declared.table_kind.TableKind.TheVariants.{Types, Classes}
use Rattle.pol_fields.specs.declared.fields.TheConstants.{NAMEGROUP_LEN, NAMEGROUP_NAME, NAMEGROUP_TARGET, NAMEGROUP_CLASS, NAMEGROUP_NDATUM, NAMEGROUP_DEFAULT}
use Rattle.pol_cursor.specs.Outcome.{Reader, ◌>>=◌, done}
use Rattle.pol_cursor.specs.Parts.{num, number, counted, records_at, spell_counted, CountedFits}
use Rattle.pol_cursor.specs.References.{Placed, Reference, values_of}
use Rattle.pol_cursor.specs.NestedRecords.{nested_in, HasNested, placed_from}
use Rattle.pol_cursor.specs.Spelling.{bytes_of}
use Rattle.pol_bitmap.specs.Bitmap.{bitmap_at, spell_bitmap, BitmapFits}
use Rattle.pol_bitmap.specs.Nodes.{bitmap_in, bitmap_size, HasBitmap}
use Rattle.pol_trans.specs.declared.name_datum_rec.NameDatumRec.{NameDatumRec}
use Rattle.pol_trans.specs.declared.name_group_rec.NameGroupRec.{NameGroupRec}
use Rattle.pol_cursor.specs.FileNames.{name_at, spell_name, name_in, name_end}

-- ---- reading and spelling

unfoldable pub name_datum_at : Reader NameDatumRec
name_datum_at = do
  sources ← bitmap_at None
  default ← number NAMEGROUP_DEFAULT 4
  done (record { sources = sources; default = default })

unfoldable pub name_group_at : Reader NameGroupRec
name_group_at = do
  name ← name_at NAMEGROUP_LEN NAMEGROUP_NAME
  target ← number NAMEGROUP_TARGET 4
  class ← number NAMEGROUP_CLASS 4
  datums ← counted NAMEGROUP_NDATUM (records_at name_datum_at)
  done (record { name = name; target = target; class = class; datums = datums })

abbrev pub spell_name_datum : NameDatumRec → List ℕ
spell_name_datum datum = spell_bitmap datum.sources ++ bytes_of 4 datum.default

abbrev pub spell_name_group : NameGroupRec → List ℕ
spell_name_group group = spell_name group.name ++ bytes_of 4 group.target ++ bytes_of 4 group.class ++ spell_counted spell_name_datum group.datums

-- the numbers of a datum fit their fields
pub record NameDatumFits (datum : NameDatumRec) : Type 0 where
  pub sources : BitmapFits datum.sources
  pub default : datum.default < 2 ^ 32

-- the same of a group
pub record NameGroupFits (group : NameGroupRec) : Type 0 where
  pub len : length group.name < 2 ^ 32
  pub target : group.target < 2 ^ 32
  pub class : group.class < 2 ^ 32
  pub datums : CountedFits NameDatumFits group.datums

-- ---- the datum that stands at a place

abbrev pub name_datum_in : List ℕ → ℕ → NameDatumRec
name_datum_in bytes place = record { sources = bitmap_in bytes place; default = num bytes (place + bitmap_size bytes place) 4 }

-- how many bytes a datum takes
abbrev pub name_datum_length : NameDatumRec → ℕ
name_datum_length datum = 16 + 12 * length datum.sources

-- the place behind the one there
abbrev pub name_datum_end : List ℕ → ℕ → ℕ
name_datum_end bytes place = place + bitmap_size bytes place + 4

-- a datum stands there, in a buffer of a policy's size
abbrev pub HasNameDatum : List ℕ → ℕ → Type 0
HasNameDatum bytes place = HasBitmap bytes place × (name_datum_end bytes place ≤ length bytes)

-- ---- the group that stands at a place

-- how many data it has, and the place of the first
abbrev pub name_data_count : List ℕ → ℕ → ℕ
name_data_count bytes place = num bytes (name_end bytes place + 8) 4

abbrev pub name_data_place : List ℕ → ℕ → ℕ
name_data_place bytes place = name_end bytes place + 12

abbrev pub name_group_in : List ℕ → ℕ → NameGroupRec
name_group_in bytes place = record {
  name = name_in bytes place;
  target = num bytes (name_end bytes place) 4;
  class = num bytes (name_end bytes place + 4) 4;
  datums = values_of (nested_in name_datum_in name_datum_end bytes (name_data_place bytes place) (name_data_count bytes place));
}

-- a group stands there, in a buffer of a policy's size
abbrev pub HasNameGroup : List ℕ → ℕ → Type 0
HasNameGroup bytes place = (name_data_place bytes place ≤ length bytes) × (length bytes ≤ MAX_POLICY_BYTES) × HasNested HasNameDatum name_datum_end bytes (name_data_place bytes place) (name_data_count bytes place)

-- its data, each with its place
abbrev pub name_data_of : Placed NameGroupRec → List (Placed NameDatumRec)
name_data_of group = placed_from name_datum_length (group.place + 16 + length group.value.name) group.value.datums

-- ---- what it names

-- the default of a datum
abbrev pub name_datum_reference : Placed NameDatumRec → Reference
name_datum_reference datum = record { place = datum.place + 12 + 12 * length datum.value.sources; field = NAMEGROUP_DEFAULT; table = Types; value = datum.value.default }

-- the target and the class, whose places the name's length moves, and then the default of each datum
abbrev pub name_group_references : Placed NameGroupRec → List Reference
name_group_references group =
    record { place = group.place + 4 + length group.value.name; field = NAMEGROUP_TARGET; table = Types; value = group.value.target } ∷
    record { place = group.place + 8 + length group.value.name; field = NAMEGROUP_CLASS; table = Classes; value = group.value.class } ∷
    map name_datum_reference (name_data_of group)
