-- A bitmap by where it stands, and its bits.
use Rattle.std.specs.Prelude.{◌≡◌, ℕ, zero, suc, ◌+◌, ◌*◌, ◌-◌, ◌%◌, ◌≤◌, ◌<◌, Bool, ◌&&◌, List, [], ◌∷◌, length, nat_le, nat_lt, ◌==◌}
use Rattle.pol_fields.specs.declared.limits.TheConstants.{MAX_POLICY_BYTES}
use Rattle.std.specs.List.{All, Contains, list_any, filter, flat_map, range_with_len}
use Rattle.std.specs.Int.{bit_at}
use Rattle.pol_cursor.specs.Parts.{num}
use Rattle.pol_bitmap.specs.declared.node.Node.{Node}

abbrev pub node_in : List ℕ → ℕ → Node
node_in bytes place = record { start = num bytes place 4; map = num bytes (place + 4) 8 }

-- the n nodes that stand from a place on
unfoldable pub nodes_in : List ℕ → ℕ → ℕ → List Node
nodes_in bytes place zero = []
nodes_in bytes place (suc n) = node_in bytes place ∷ nodes_in bytes (place + 12) n

-- the bitmap that stands at a place
abbrev pub bitmap_in : List ℕ → ℕ → List Node
bitmap_in bytes place = nodes_in bytes (place + 12) (num bytes (place + 8) 4)

-- how many bytes it takes
abbrev pub bitmap_size : List ℕ → ℕ → ℕ
bitmap_size bytes place = 12 + 12 * num bytes (place + 8) 4

-- nodes in rising order from a place on, each at a multiple of 64 and none of them empty: the one form of a set
abbrev pub IsRisingFrom : ℕ → List Node → Type 0
IsRisingFrom least [] = Unit {0}
IsRisingFrom least (n ∷ ns) = (least ≤ n.start) × (n.start % 64 ≡ 0) × (0 < n.map) × IsRisingFrom (n.start + 64) ns

-- a bitmap stands there, in a buffer of a policy's size
abbrev pub HasBitmap : List ℕ → ℕ → Type 0
HasBitmap bytes place = (place + 12 + 12 * num bytes (place + 8) 4 ≤ length bytes) × (length bytes ≤ MAX_POLICY_BYTES) × IsRisingFrom 0 (bitmap_in bytes place)

-- the bits of a node, rising: those of the 64 from its start on that its map has (libsepol's ebitmap)
unfoldable pub node_bits : Node → List ℕ
node_bits n = filter (λ bit. bit_at n.map (bit - n.start) == 1) (range_with_len n.start 64)

-- the bits of nodes, node by node
abbrev pub bits_of : List Node → List ℕ
bits_of ns = flat_map node_bits ns

-- a node has a bit
abbrev pub node_has : ℕ → Node → Bool
node_has bit n = nat_le n.start bit && nat_lt bit (n.start + 64) && (bit_at n.map (bit - n.start) == 1)

-- some node has a bit
abbrev pub has_bit : List Node → ℕ → Bool
has_bit ns bit = list_any (node_has bit) ns

-- the least of some bits at or above a bit
pub record IsLeastFrom (bits : List ℕ) (bit found : ℕ) : Type 0 where
  pub above : bit ≤ found
  pub there : Contains bits found
  pub least : All (λ c. bit ≤ c → found ≤ c) bits
