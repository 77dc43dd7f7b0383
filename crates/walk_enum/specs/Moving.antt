-- Going through a list of walks, from each one to the next.
use Rattle.std.specs.Prelude.{◌≡◌, ◌<◌, ◌+◌, ℕ, Bool, true, false, List, length, Some, slice_get}

-- from one walk of a list to the next, or to none: then the one was the last, and stays
pub record Moves (all : List (List ℕ)) (old new : List ℕ) (moved : Bool) : Type 0 where
  pub next : moved ≡ true → (i : ℕ) → slice_get all i ≡ Some old → slice_get all (i + 1) ≡ Some new
  pub last : moved ≡ false → (i : ℕ) → slice_get all i ≡ Some old → i + 1 ≡ length all
  pub kept : moved ≡ false → new ≡ old

-- the walks that a caller sees who asks for the first one, and then for the next until there is none
pub record IsListing (all seen : List (List ℕ)) : Type 0 where
  pub some : 0 < length seen
  pub first : slice_get all 0 ≡ slice_get seen 0
  pub next : (i : ℕ) (v w : List ℕ) → slice_get seen i ≡ Some v → slice_get seen (i + 1) ≡ Some w → Moves all v w true
  pub last : (i : ℕ) (v : List ℕ) → i + 1 ≡ length seen → slice_get seen i ≡ Some v → Moves all v v false
