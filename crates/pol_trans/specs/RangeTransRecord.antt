-- Record 35: a range transition, by which an object of a class that a source makes from a target has a range of MLS (libsepol's
-- range_read).
use Rattle.std.specs.Prelude.{ℕ, ◌+◌, ◌^◌, ◌<◌, List, ◌∷◌, ◌++◌}
use Rattle.pol_fields.specs.declared.table_kind.TableKind.TheVariants.{Types, Classes}
use Rattle.pol_fields.specs.declared.fields.TheConstants.{RANGETRANS_SOURCE, RANGETRANS_TARGET, RANGETRANS_CLASS}
use Rattle.pol_cursor.specs.Outcome.{Reader, ◌>>=◌, done}
use Rattle.pol_cursor.specs.Parts.{num, number}
use Rattle.pol_cursor.specs.References.{Placed, Reference}
use Rattle.pol_cursor.specs.Spelling.{bytes_of}
use Rattle.pol_mls.specs.declared.range_rec.RangeRec.{RangeRec}
use Rattle.pol_mls.specs.RangeRecord.{range_at, spell_range, RangeFits, range_in, HasRange, range_references}
use Rattle.pol_trans.specs.declared.range_trans_rec.RangeTransRec.{RangeTransRec}

-- ---- reading and spelling

unfoldable pub range_trans_at : Reader RangeTransRec
range_trans_at = do
  source ← number RANGETRANS_SOURCE 4
  target ← number RANGETRANS_TARGET 4
  class ← number RANGETRANS_CLASS 4
  range ← range_at
  done (record { source = source; target = target; class = class; range = range })

abbrev pub spell_range_trans : RangeTransRec → List ℕ
spell_range_trans trans = bytes_of 4 trans.source ++ bytes_of 4 trans.target ++ bytes_of 4 trans.class ++ spell_range trans.range

-- the numbers of a range transition fit their fields, and its range fits
pub record RangeTransFits (trans : RangeTransRec) : Type 0 where
  pub source : trans.source < 2 ^ 32
  pub target : trans.target < 2 ^ 32
  pub class : trans.class < 2 ^ 32
  pub range : RangeFits trans.range

-- ---- the range transition that stands at a place

abbrev pub range_trans_in : List ℕ → ℕ → RangeTransRec
range_trans_in bytes place = record {
  source = num bytes place 4;
  target = num bytes (place + 4) 4;
  class = num bytes (place + 8) 4;
  range = range_in bytes (place + 12);
}

-- a range transition stands there, in a buffer of a policy's size
abbrev pub HasRangeTrans : List ℕ → ℕ → Type 0
HasRangeTrans bytes place = HasRange bytes (place + 12)

-- ---- what it names

-- its range, with the place of that
abbrev pub range_of : Placed RangeTransRec → Placed RangeRec
range_of trans = record { place = trans.place + 12; value = trans.value.range }

-- the types and the class, and then the sensitivities of its range
abbrev pub range_trans_references : Placed RangeTransRec → List Reference
range_trans_references trans =
    record { place = trans.place; field = RANGETRANS_SOURCE; table = Types; value = trans.value.source } ∷
    record { place = trans.place + 4; field = RANGETRANS_TARGET; table = Types; value = trans.value.target } ∷
    record { place = trans.place + 8; field = RANGETRANS_CLASS; table = Classes; value = trans.value.class } ∷
    range_references (range_of trans)
