-- What a search from a node has found in so many steps.
use Rattle.std.specs.Prelude.{◌≡◌, ◌⊎◌, ◌≤◌, ◌<◌, ◌+◌, ℕ, zero, suc, List, [], ◌++◌, length, slice_index, Contains}
use Rattle.walk_enum.specs.Inner.Turns.{row_of}
use Rattle.walk_enum.specs.Inner.Exploring.{some_count}

-- a node is reached from a node in so many steps
abbrev pub Comes : (ℕ → List ℕ) → ℕ → ℕ → ℕ → Type 0
Comes next a b zero = a ≡ b
Comes next a b (suc k) = (c : ℕ) × Comes next a c k × Contains (next c) b

-- The nodes that are reached in less than so many steps have all their successors in their rows.
pub record Covers (next : ℕ → List ℕ) (from most : ℕ) (rows : List (List ℕ)) : Type 0 where
  pub near : (b j : ℕ) → j < most → Comes next from b j → row_of rows b ≡ next b
  pub each : (b : ℕ) → (row_of rows b ≡ []) ⊎ (row_of rows b ≡ next b)

-- The queue has each node that was found once. Its first nodes, so many, were asked: their successors were found, and stand in their rows.
pub record Searches (next : ℕ → List ℕ) (nodes : ℕ) (marks queue : List ℕ) (rows : List (List ℕ)) (head : ℕ) : Type 0 where
  pub size : length marks ≡ nodes + 1
  pub long : length rows ≡ nodes + 1
  pub count : length queue ≡ some_count marks
  pub listed : (b : ℕ) → 1 ≤ slice_index marks b → Contains queue b
  pub range : (b : ℕ) → Contains queue b → (1 ≤ b) × (b ≤ nodes)
  pub asked : (i : ℕ) → i < head → row_of rows (slice_index queue i) ≡ next (slice_index queue i)
  pub closed : (i : ℕ) → i < head → (b : ℕ) → Contains (next (slice_index queue i)) b → Contains queue b
  pub each : (b : ℕ) → (row_of rows b ≡ []) ⊎ (row_of rows b ≡ next b)
  pub within : head ≤ length queue

-- the nodes that are reached in at most so many steps were found, and those of less steps were asked
pub record Reaches (next : ℕ → List ℕ) (from : ℕ) (queue : List ℕ) (head steps : ℕ) : Type 0 where
  pub found : (b j : ℕ) → j ≤ steps → Comes next from b j → Contains queue b
  pub asked : (b j : ℕ) → j < steps → Comes next from b j → (i : ℕ) × (i < head) × (slice_index queue i ≡ b)

-- a list has grown at its end
pub record IsGrown (old new : List ℕ) : Type 0 where
  pub more : List ℕ
  pub is : new ≡ old ++ more
