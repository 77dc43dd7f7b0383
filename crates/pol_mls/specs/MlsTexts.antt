-- The texts of levels and ranges: those of SETools, but for two categories in a row, which are c1,c2 here and c1.c2 there.
use Rattle.std.specs.Prelude.{ℕ, ◌+◌, ◌-◌, ◌^◌, ◌==◌, ◌&&◌, Bool, Option, Some, None, is_some, List, [], ◌∷◌, ◌++◌, length, map, filter, get_or, codes, nat_le, nat_lt, bytes_eq, if◌then◌else◌}
use Rattle.std.specs.List.{join_by}
use Rattle.pol_fields.specs.declared.table_kind.TableKind.TheVariants.{Levels, Categories}
use Rattle.pol_cursor.specs.References.{Named, name_of}
use Rattle.pol_bitmap.specs.Nodes.{bits_of}
use Rattle.pol_mls.specs.declared.level_rec.LevelRec.{LevelRec}
use Rattle.pol_mls.specs.declared.range_rec.RangeRec.{RangeRec}

-- ---- the categories of a level

-- a value, which has 32 bits, is a declared category
abbrev pub is_category : Named → ℕ → Bool
is_category named value = nat_lt value (2 ^ 32) && is_some (named Categories value)

-- the declared categories that some bits stand for, in order of value: bit v - 1 stands for the value v
abbrev pub categories_of : Named → List ℕ → List ℕ
categories_of named bits = filter (is_category named) (map (λ bit. bit + 1) bits)

-- the runs with a value before them, which joins the first run where that starts one above it
abbrev pub with_value : ℕ → List (List ℕ) → List (List ℕ)
with_value v [] = (v ∷ []) ∷ []
with_value v ([] ∷ runs) = (v ∷ []) ∷ runs
with_value v ((w ∷ ws) ∷ runs) = if w == v + 1 then (v ∷ w ∷ ws) ∷ runs else (v ∷ []) ∷ (w ∷ ws) ∷ runs

-- values, cut into the maximal runs of those that rise by one each
abbrev pub runs_of : List ℕ → List (List ℕ)
runs_of [] = []
runs_of (v ∷ vs) = with_value v (runs_of vs)

-- Three values and more are FIRST.LAST, and fewer are their names.
abbrev pub run_text : Named → List ℕ → List ℕ
run_text named run =
    if nat_le 3 (length run) then name_of named Categories (get_or run 0 0) ++ codes "." ++ name_of named Categories (get_or run (length run - 1) 0)
    else join_by (name_of named Categories) (codes ",") run

-- the texts of the runs, with commas between them
abbrev pub runs_text : Named → List ℕ → List ℕ
runs_text named values = join_by (run_text named) (codes ",") (runs_of values)

-- what stands behind a sensitivity: nothing, or a colon and the categories
abbrev pub categories_text : Named → List ℕ → List ℕ
categories_text named [] = []
categories_text named (v ∷ vs) = codes ":" ++ runs_text named (v ∷ vs)

-- ---- levels and ranges

abbrev pub level_text : Named → LevelRec → List ℕ
level_text named level = name_of named Levels level.sens ++ categories_text named (categories_of named (bits_of level.categories))

-- the low level of a range
abbrev pub low_level : RangeRec → LevelRec
low_level range = record { sens = range.low; categories = range.low_categories }

-- Two levels are equal where sensitivity and bits are.
abbrev pub same_level : LevelRec → LevelRec → Bool
same_level a b = (a.sens == b.sens) && bytes_eq (bits_of a.categories) (bits_of b.categories)

-- what stands behind the low level: the high one, where it differs
abbrev pub high_text : Named → LevelRec → Option LevelRec → List ℕ
high_text named low None = []
high_text named low (Some high) = if same_level low high then [] else codes " - " ++ level_text named high

abbrev pub range_text : Named → RangeRec → List ℕ
range_text named range = level_text named (low_level range) ++ high_text named (low_level range) range.high
