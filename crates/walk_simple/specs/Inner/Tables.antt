-- Walks that are gone on with by a table of successors, and of numbers of steps to the target.
use Rattle.std.specs.Prelude.{◌≡◌, ◌<◌, ◌+◌, ℕ, Bool, true, false, List, [], ◌∷◌, ◌++◌, map, slice_index, take, drop}
use Rattle.std.specs.List.{filter, flat_map}
use Rattle.std.specs.List.Sorted.{IsStrictlyIncreasing}
use Rattle.walk_enum.specs.Inner.Turns.{row_of, Follows, IsLast}
use Rattle.walk_simple.specs.SimpleWalks.{is_new, simple_along}
use Rattle.walk_simple.specs.Rooms.{WalkInRoom}

-- from a node there is no walk of less steps than its number
abbrev pub AreBounds : (ℕ → List ℕ) → ℕ → List ℕ → Type 0
AreBounds next to far = (c k : ℕ) (used : List ℕ) → k < slice_index far c → simple_along next used c to k ≡ []

-- the successors of each node rise, and the numbers of steps bound the walks
pub record IsTable (rows : List (List ℕ)) (far : List ℕ) (to : ℕ) : Type 0 where
  pub rising : (c : ℕ) → IsStrictlyIncreasing (row_of rows c)
  pub bounds : AreBounds (row_of rows) to far

-- the walks that go on from a node over some of its successors
abbrev pub walks_over : (ℕ → List ℕ) → ℕ → ℕ → List ℕ → List ℕ → ℕ → List (List ℕ)
walks_over next b k row used a = flat_map (λ c. map (λ w. a ∷ w) (simple_along next (used ++ a ∷ []) c b k)) (filter (is_new (used ++ a ∷ [])) row)

-- A walk goes on with the first of all ways from its last node, or stays where there is none. Its room stays.
pub record GoesOn (all : List ℕ → ℕ → List (List ℕ)) (old new : WalkInRoom) (found : Bool) : Type 0 where
  pub room : new.room ≡ old.room
  pub some : found ≡ true → (used : List ℕ) (a : ℕ) → old.nodes ≡ used ++ a ∷ [] → (w : List ℕ) × (rest : List (List ℕ)) × (new.nodes ≡ used ++ w) × (all used a ≡ w ∷ rest)
  pub none : found ≡ false → (used : List ℕ) (a : ℕ) → old.nodes ≡ used ++ a ∷ [] → all used a ≡ []
  pub kept : found ≡ false → new.nodes ≡ old.nodes

-- the ways of at most so many steps on from a place of a walk
abbrev pub ways_at : (ℕ → List ℕ) → ℕ → ℕ → List ℕ → ℕ → List (List ℕ)
ways_at next b k nodes place = simple_along next (take place nodes) (slice_index nodes place) b k

-- A walk goes from one of the ways on from a place to the next one, or it was at the last and is cut after that place. Its room stays.
pub record GoesFrom (next : ℕ → List ℕ) (b k place : ℕ) (old new : WalkInRoom) (moved : Bool) : Type 0 where
  pub room : new.room ≡ old.room
  pub some : moved ≡ true → (w : List ℕ) × (new.nodes ≡ take place old.nodes ++ w) × Follows (ways_at next b k old.nodes place) (drop place old.nodes) w
  pub none : moved ≡ false → IsLast (ways_at next b k old.nodes place) (drop place old.nodes)
  pub cut : moved ≡ false → new.nodes ≡ take (place + 1) old.nodes

-- a row goes on from a place with what stands behind a node
pub record IsBehind (row : List ℕ) (node place : ℕ) : Type 0 where
  pub front : List ℕ
  pub is : row ≡ front ++ node ∷ drop place row
