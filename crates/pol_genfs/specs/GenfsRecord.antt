-- Record 34: the contexts of the files of a file system that has no labels of its own, by their paths (libsepol's genfs_read).
use Rattle.std.specs.Prelude.{ℕ, ◌+◌, ◌^◌, ◌<◌, ◌≤◌, ◌==◌, List, [], ◌∷◌, ◌++◌, length, if◌then◌else◌}
use Rattle.pol_fields.specs.declared.limits.TheConstants.{MAX_POLICY_BYTES}
use Rattle.std.specs.List.{flat_map}
use Rattle.pol_fields.specs.declared.table_kind.TableKind.TheVariants.{Classes}
use Rattle.pol_fields.specs.declared.fields.TheConstants.{GENFS_LEN, GENFS_FSTYPE, GENFS_NPATHS, GENFS_PATHLEN, GENFS_PATH, GENFS_CLASS}
use Rattle.pol_cursor.specs.Outcome.{Reader, ◌>>=◌, done}
use Rattle.pol_cursor.specs.Parts.{num, number, counted, records_at, spell_counted, CountedFits}
use Rattle.pol_cursor.specs.FileNames.{name_at, spell_name, NameFits, name_in, name_end}
use Rattle.pol_cursor.specs.References.{Placed, Reference, values_of}
use Rattle.pol_cursor.specs.NestedRecords.{nested_in, HasNested, placed_from}
use Rattle.pol_cursor.specs.Spelling.{bytes_of}
use Rattle.pol_mls.specs.ContextRecord.{context_at, spell_context, ContextFits, context_in, context_length, context_end, HasContext, context_references}
use Rattle.pol_mls.specs.declared.context_rec.ContextRec.{ContextRec}
use Rattle.pol_genfs.specs.declared.genfs_rec.GenfsPathRec.{GenfsPathRec}
use Rattle.pol_genfs.specs.declared.genfs_rec.GenfsRec.{GenfsRec}

-- ---- a path: reading and spelling

unfoldable pub path_at : Reader GenfsPathRec
path_at = do
  path ← name_at GENFS_PATHLEN GENFS_PATH
  class ← number GENFS_CLASS 4
  context ← context_at
  done (record { path = path; class = class; context = context })

abbrev pub spell_path : GenfsPathRec → List ℕ
spell_path entry = spell_name entry.path ++ bytes_of 4 entry.class ++ spell_context entry.context

-- the length and the numbers of a path fit their fields
pub record PathFits (entry : GenfsPathRec) : Type 0 where
  pub path : NameFits entry.path
  pub class : entry.class < 2 ^ 32
  pub context : ContextFits entry.context

-- ---- the path that stands at a place

abbrev pub path_in : List ℕ → ℕ → GenfsPathRec
path_in bytes place = record {
  path = name_in bytes place;
  class = num bytes (name_end bytes place) 4;
  context = context_in bytes (name_end bytes place + 4);
}

-- how many bytes a path takes
abbrev pub path_length : GenfsPathRec → ℕ
path_length entry = 8 + length entry.path + context_length entry.context

-- the place behind the one there
abbrev pub genfs_path_end : List ℕ → ℕ → ℕ
genfs_path_end bytes place = context_end bytes (name_end bytes place + 4)

abbrev pub HasPath : List ℕ → ℕ → Type 0
HasPath bytes place = HasContext bytes (name_end bytes place + 4)

-- the place of the class
abbrev pub class_place : Placed GenfsPathRec → ℕ
class_place entry = entry.place + 4 + length entry.value.path

-- the context, with its place
abbrev pub context_of_path : Placed GenfsPathRec → Placed ContextRec
context_of_path entry = record { place = class_place entry + 4; value = entry.value.context }

-- ---- what a path names

-- The class 0 stands for every class.
abbrev pub class_references : ℕ → ℕ → List Reference
class_references place class = if class == 0 then [] else record { place = place; field = GENFS_CLASS; table = Classes; value = class } ∷ []

-- the class, and then the references of the context
abbrev pub path_references : Placed GenfsPathRec → List Reference
path_references entry = class_references (class_place entry) entry.value.class ++ context_references (context_of_path entry)

-- ---- a file system: reading and spelling

unfoldable pub genfs_at : Reader GenfsRec
genfs_at = do
  fstype ← name_at GENFS_LEN GENFS_FSTYPE
  paths ← counted GENFS_NPATHS (records_at path_at)
  done (record { fstype = fstype; paths = paths })

abbrev pub spell_genfs : GenfsRec → List ℕ
spell_genfs entry = spell_name entry.fstype ++ spell_counted spell_path entry.paths

-- the lengths and the numbers of a file system fit their fields
pub record GenfsFits (entry : GenfsRec) : Type 0 where
  pub fstype : NameFits entry.fstype
  pub paths : CountedFits PathFits entry.paths

-- ---- the file system that stands at a place

-- how many paths it has, and the place of the first
abbrev pub path_count : List ℕ → ℕ → ℕ
path_count bytes place = num bytes (name_end bytes place) 4

abbrev pub paths_place : List ℕ → ℕ → ℕ
paths_place bytes place = name_end bytes place + 4

abbrev pub genfs_in : List ℕ → ℕ → GenfsRec
genfs_in bytes place = record {
  fstype = name_in bytes place;
  paths = values_of (nested_in path_in genfs_path_end bytes (paths_place bytes place) (path_count bytes place));
}

-- a file system stands there, in a buffer of a policy's size
abbrev pub HasGenfs : List ℕ → ℕ → Type 0
HasGenfs bytes place = (paths_place bytes place ≤ length bytes) × (length bytes ≤ MAX_POLICY_BYTES) × HasNested HasPath genfs_path_end bytes (paths_place bytes place) (path_count bytes place)

-- its paths, each with its place
abbrev pub paths_of : Placed GenfsRec → List (Placed GenfsPathRec)
paths_of entry = placed_from path_length (entry.place + 8 + length entry.value.fstype) entry.value.paths

-- ---- what a file system names

abbrev pub genfs_references : Placed GenfsRec → List Reference
genfs_references entry = flat_map path_references (paths_of entry)
