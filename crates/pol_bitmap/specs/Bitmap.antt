-- Record 2: a bitmap, how it is read and how it is spelled. Its parts are those of libsepol's ebitmap. The conditions, each at
-- its field, are this project's profile of the format.
use Rattle.std.specs.Prelude.{Some, None, not, false, ℕ, ◌+◌, ◌%◌, ◌^◌, ◌<◌, Bool, ◌&&◌, Option, List, [], ◌∷◌, ◌++◌, length, nat_le, ◌==◌, if◌then◌else◌}
use Rattle.std.specs.List.{flat_map, list_any, AllByRecursion}
use Rattle.pol_fields.specs.declared.fault.Cause.{Cause}
use Rattle.pol_fields.specs.declared.fault.Cause.TheVariants.{BadMapUnit, BadHighbit, BadCount, BadStart, ZeroMap, MapBitOut}
use Rattle.pol_fields.specs.declared.fields.TheConstants.{BITMAP_UNIT, BITMAP_HIGHBIT, BITMAP_COUNT, BITMAP_STARTBIT, BITMAP_MAP}
use Rattle.pol_cursor.specs.Outcome.{Reader, ◌>>=◌, done}
use Rattle.pol_cursor.specs.Parts.{number_if, list_of, unless}
use Rattle.pol_cursor.specs.Spelling.{bytes_of}
use Rattle.pol_bitmap.specs.declared.node.Node.{Node}
use Rattle.pol_bitmap.specs.Nodes.{node_bits}

-- ---- reading

-- A map unit has 64 bits.
abbrev pub unit_test : ℕ → Option Cause
unit_test unit = unless (unit == 64) BadMapUnit

-- The bit after the last one is at the end of a map unit.
abbrev pub highbit_test : ℕ → Option Cause
highbit_test highbit = unless (highbit % 64 == 0) BadHighbit

-- The count is 0 exactly where highbit is 0.
abbrev pub count_test : ℕ → ℕ → Option Cause
count_test highbit count = unless (if count == 0 then highbit == 0 else nat_le 1 highbit) BadCount

-- A start is a multiple of 64 that is not below the floor. Its node ends within highbit, and at it where no node is left.
abbrev pub start_test : ℕ → ℕ → Bool → ℕ → Option Cause
start_test highbit floor is_last start = unless ((start % 64 == 0) && nat_le floor start && (if is_last then start + 64 == highbit else nat_le (start + 64) highbit)) BadStart

-- a node has a bit at or above the limit, where there is one
abbrev pub is_out : Option ℕ → Node → Bool
is_out None node = false
is_out (Some limit) node = list_any (nat_le limit) (node_bits node)

-- A map is not 0. Where bits have a limit, it has none at or above it.
abbrev pub map_test : Option ℕ → ℕ → ℕ → Option Cause
map_test limit start map = if map == 0 then Some ZeroMap else unless (not (is_out limit (record { start = start; map = map }))) MapBitOut

-- a node before which no bit may start below the floor, and after which this many are left
unfoldable pub node_at : Option ℕ → ℕ → ℕ → ℕ → Reader Node
node_at limit highbit left floor = do
  start ← number_if BITMAP_STARTBIT 4 (start_test highbit floor (left == 0))
  map ← number_if BITMAP_MAP 8 (map_test limit start)
  done (record { start = start; map = map })

-- A start lies above the one before.
abbrev pub floor_after : ℕ → Node → ℕ
floor_after floor node = node.start + 1

unfoldable pub nodes_at : Option ℕ → ℕ → ℕ → Reader (List Node)
nodes_at limit highbit count = list_of (node_at limit highbit) floor_after count 0

-- a bitmap whose bits have a limit or none
unfoldable pub bitmap_at : Option ℕ → Reader (List Node)
bitmap_at limit = do
  unit ← number_if BITMAP_UNIT 4 unit_test
  highbit ← number_if BITMAP_HIGHBIT 4 highbit_test
  count ← number_if BITMAP_COUNT 4 (count_test highbit)
  nodes_at limit highbit count

-- ---- spelling

-- the bit after the last node
abbrev pub high_of : List Node → ℕ
high_of [] = 0
high_of (n ∷ []) = n.start + 64
high_of (n ∷ m ∷ ns) = high_of (m ∷ ns)

abbrev pub spell_node : Node → List ℕ
spell_node n = bytes_of 4 n.start ++ bytes_of 8 n.map

abbrev pub spell_bitmap : List Node → List ℕ
spell_bitmap ns = bytes_of 4 64 ++ bytes_of 4 (high_of ns) ++ bytes_of 4 (length ns) ++ flat_map spell_node ns

-- the numbers of a node fit their fields
abbrev pub NodeFits : Node → Type 0
NodeFits n = (n.start < 2 ^ 32) × (n.map < 2 ^ 64)

-- The numbers of a bitmap fit their fields. Nothing is asked of highbit: where the last node ends beyond 32 bits, the lowest 32 are
-- spelled, and the reader refuses them.
pub record BitmapFits (ns : List Node) : Type 0 where
  pub count : length ns < 2 ^ 32
  pub nodes : AllByRecursion NodeFits ns
