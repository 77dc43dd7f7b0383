-- The nodes of a set by its bits: the one bitmap in the form of a set that has just these (sets_have_their_bits).
use Rattle.std.specs.Prelude.{ℕ, ◌-◌, ◌%◌, ◌^◌, ◌==◌, nat_lt, bit_or, List, [], ◌∷◌, if◌then◌else◌}
use Rattle.std.specs.List.{range_with_len}
use Rattle.pol_bitmap.specs.declared.Node.{Node}

-- the node of one bit
abbrev pub node_of : ℕ → Node
node_of bit = record { start = bit - bit % 64; map = 2 ^ (bit % 64) }

-- nodes with one more before them. It is one with the first of them where both are of the same 64 bits.
abbrev pub with_node : Node → List Node → List Node
with_node n [] = n ∷ []
with_node n (m ∷ ms) = if n.start == m.start then record { start = n.start; map = bit_or n.map m.map } ∷ ms else n ∷ m ∷ ms

-- the set of bits that rise
unfoldable pub set_of : List ℕ → List Node
set_of [] = []
set_of (bit ∷ bits) = with_node (node_of bit) (set_of bits)

-- the set of the first bits, so many
unfoldable pub first_bits : ℕ → List Node
first_bits count = set_of (range_with_len 0 count)

-- ---- of numbers in any order

-- numbers that rise, and one more, unless it is among them
abbrev pub with_value : ℕ → List ℕ → List ℕ
with_value value [] = value ∷ []
with_value value (first ∷ others) = if nat_lt first value then first ∷ with_value value others else if first == value then first ∷ others else value ∷ first ∷ others

-- numbers, each once and rising
unfoldable pub rising : List ℕ → List ℕ
rising [] = []
rising (value ∷ values) = with_value value (rising values)

-- the set of numbers (sets_have_their_values)
abbrev pub set_of_values : List ℕ → List Node
set_of_values values = set_of (rising values)
