-- Bits by their places.
use Rattle.std.specs.Prelude.{ℕ, ◌/◌, ◌%◌, ◌==◌, Bool, List, slice_index}
use Rattle.std.specs.Int.{bit_at}

-- the bit of a place, of which each number has 64; behind the last number, none is set
unfoldable pub has_bit_of : List ℕ → ℕ → Bool
has_bit_of bits place = bit_at (slice_index bits (place / 64)) (place % 64) == 1
