-- Values below a count, a bit for each. It serves the code alone.
use Rattle.std.specs.Prelude.{◌≡◌, ℕ, ◌+◌, ◌/◌, ◌%◌, ◌<◌, ◌≤◌, Bool, true, ◌==◌, List, length, slice_index}
use Rattle.std.specs.List.{filter, range_with_len}
use Rattle.std.specs.Int.{bit_at}

-- a value is there by its bit: 64 values have theirs in a word, the least of them in the lowest
unfoldable pub word_has : List ℕ → ℕ → Bool
word_has words value = bit_at (slice_index words (value / 64)) (value % 64) == 1

-- the values that are there, rising
unfoldable pub values_in : ℕ → List ℕ → List ℕ
values_in count words = filter (word_has words) (range_with_len 0 count)

-- There are as many words as the count takes, and no value from the count on is there.
pub record IsDense (count : ℕ) (words : List ℕ) : Type 0 where
  pub few : count ≤ 65536
  pub long : length words ≡ (count + 63) / 64
  pub within : (value : ℕ) → word_has words value ≡ true → value < count
