-- Lists that are put one behind the other, by where each of them ends.
use Rattle.std.specs.Prelude.{ℕ, ◌+◌, ◌*◌, ◌-◌, ◌<◌, ◌≤◌, List, [], ◌∷◌, length, sum, take, slice_index}

-- their lengths, where the first begins at a start
unfoldable pub lengths_between : ℕ → List ℕ → List ℕ
lengths_between start [] = []
lengths_between start (end ∷ ends) = (end - start) ∷ lengths_between end ends

-- each ends where it begins or behind that, and none behind the limit
unfoldable pub AreEnds : ℕ → List ℕ → Type 0
AreEnds start [] = Unit {0}
AreEnds start (end ∷ ends) = (start ≤ end) × (end ≤ 400000000) × AreEnds end ends

-- the list of a number has the item of a number
pub record HasItem (lengths : List ℕ) (list item : ℕ) : Type 0 where
  pub within : list < length lengths
  pub begins : sum (take list lengths) ≤ item
  pub ends : item < sum (take (list + 1) lengths)

-- the lists in which the items 0, 64, 128 and so on stand, as far as there are items
pub record AreFirsts (lengths firsts : List ℕ) : Type 0 where
  pub reach : sum lengths ≤ 64 * length firsts
  pub hold : (k : ℕ) → k < length firsts → HasItem lengths (slice_index firsts k) (64 * k)
