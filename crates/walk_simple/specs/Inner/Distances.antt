-- The least numbers of steps to the target, found one step after another.
use Rattle.std.specs.Prelude.{◌≡◌, ◌⊎◌, ◌≤◌, ◌<◌, ◌+◌, ℕ, List, [], length, slice_index, Contains}
use Rattle.walk_simple.specs.SimpleWalks.{simple_along}

-- The walks of at most so many steps are bounded. No number is more than the greatest.
pub record Bounds (next : ℕ → List ℕ) (to top : ℕ) (far : List ℕ) (steps : ℕ) : Type 0 where
  pub target : slice_index far to ≡ 0
  pub short : (c : ℕ) → slice_index far c ≤ top
  pub below : (c k : ℕ) (used : List ℕ) → k ≤ steps → k < slice_index far c → simple_along next used c to k ≡ []

-- The nodes that have a successor within so many steps lie within one more.
pub record Settles (next : ℕ → List ℕ) (old new : List ℕ) (steps : ℕ) : Type 0 where
  pub long : length new ≡ length old
  pub cases : (c : ℕ) → (slice_index new c ≡ slice_index old c) ⊎ ((steps < slice_index old c) × (slice_index new c ≡ steps + 1))
  pub rest : (c : ℕ) → steps + 1 < slice_index new c → (s : ℕ) → Contains (next c) s → steps < slice_index old s
