-- Record 22: a file-name transition, by which an object of a class that a source makes under a name in an object of a target
-- has the default type (libsepol's filename_trans_read_one_compat).
use Rattle.std.specs.Prelude.{ℕ, ◌+◌, ◌^◌, ◌<◌, ◌≤◌, List, [], ◌∷◌, ◌++◌, length}
use Rattle.pol_fields.specs.declared.limits.TheConstants.{MAX_POLICY_BYTES}
use Rattle.pol_fields.specs.declared.table_kind.TableKind.TheVariants.{Types, Classes}
use Rattle.pol_fields.specs.declared.fields.TheConstants.{NAMETRANS_LEN, NAMETRANS_NAME, NAMETRANS_SOURCE, NAMETRANS_TARGET, NAMETRANS_CLASS, NAMETRANS_DEFAULT}
use Rattle.pol_cursor.specs.Outcome.{Reader, ◌>>=◌, done}
use Rattle.pol_cursor.specs.Parts.{num, number}
use Rattle.pol_cursor.specs.References.{Placed, Reference}
use Rattle.pol_cursor.specs.Spelling.{bytes_of}
use Rattle.pol_trans.specs.declared.name_trans_rec.NameTransRec.{NameTransRec}
use Rattle.pol_cursor.specs.FileNames.{name_at, spell_name, name_in, name_end}

-- ---- reading and spelling

unfoldable pub name_trans_at : Reader NameTransRec
name_trans_at = do
  name ← name_at NAMETRANS_LEN NAMETRANS_NAME
  source ← number NAMETRANS_SOURCE 4
  target ← number NAMETRANS_TARGET 4
  class ← number NAMETRANS_CLASS 4
  default ← number NAMETRANS_DEFAULT 4
  done (record { name = name; source = source; target = target; class = class; default = default })

abbrev pub spell_name_trans : NameTransRec → List ℕ
spell_name_trans trans =
    spell_name trans.name ++ bytes_of 4 trans.source ++ bytes_of 4 trans.target ++ bytes_of 4 trans.class ++ bytes_of 4 trans.default

-- the numbers of a file-name transition fit their fields
pub record NameTransFits (trans : NameTransRec) : Type 0 where
  pub len : length trans.name < 2 ^ 32
  pub source : trans.source < 2 ^ 32
  pub target : trans.target < 2 ^ 32
  pub class : trans.class < 2 ^ 32
  pub default : trans.default < 2 ^ 32

-- ---- the file-name transition that stands at a place

abbrev pub name_trans_in : List ℕ → ℕ → NameTransRec
name_trans_in bytes place = record {
  name = name_in bytes place;
  source = num bytes (name_end bytes place) 4;
  target = num bytes (name_end bytes place + 4) 4;
  class = num bytes (name_end bytes place + 8) 4;
  default = num bytes (name_end bytes place + 12) 4;
}

-- a file-name transition stands there, in a buffer of a policy's size
abbrev pub HasNameTrans : List ℕ → ℕ → Type 0
HasNameTrans bytes place = (name_end bytes place + 16 ≤ length bytes) × (length bytes ≤ MAX_POLICY_BYTES)

-- ---- what it names

-- source, target, class and default, from the place behind the name
abbrev pub references_behind_name : ℕ → NameTransRec → List Reference
references_behind_name place trans =
    record { place = place; field = NAMETRANS_SOURCE; table = Types; value = trans.source } ∷
    record { place = place + 4; field = NAMETRANS_TARGET; table = Types; value = trans.target } ∷
    record { place = place + 8; field = NAMETRANS_CLASS; table = Classes; value = trans.class } ∷
    record { place = place + 12; field = NAMETRANS_DEFAULT; table = Types; value = trans.default } ∷
    []

abbrev pub name_trans_references : Placed NameTransRec → List Reference
name_trans_references trans = references_behind_name (trans.place + 4 + length trans.value.name) trans.value
