-- What a search from a node has found: how deep each node lies, and the successors of those that were asked.
use Rattle.std.specs.Prelude.{◌≡◌, ◌≤◌, ◌<◌, ◌+◌, ◌⊎◌, ℕ, zero, suc, List, [], ◌∷◌, ◌++◌, length, Contains, slice_index}
use Rattle.walk_enum.specs.Walks.{Goes}
use Rattle.walk_enum.specs.Inner.Turns.{row_of}

-- how many numbers are not zero
abbrev pub some_count : List ℕ → ℕ
some_count [] = 0
some_count (zero ∷ xs) = some_count xs
some_count (suc x ∷ xs) = some_count xs + 1

-- The queue has each node of a depth once, in the order of the depths. A node's depth is one more than the steps of some walk to it. Its
-- first nodes, so many, were asked: their successors have a depth, of at most one more, and stand in the rows.
pub record Explores (next : ℕ → List ℕ) (nodes from to : ℕ) (depths queue : List ℕ) (rows : List (List ℕ)) (head : ℕ) : Type 0 where
  pub size : length depths ≡ nodes + 1
  pub marked : (b : ℕ) → Contains queue b → 1 ≤ slice_index depths b
  pub listed : (b : ℕ) → 1 ≤ slice_index depths b → Contains queue b
  pub count : length queue ≡ some_count depths
  pub range : (b : ℕ) → Contains queue b → (1 ≤ b) × (b ≤ nodes)
  pub reach : (b d : ℕ) → slice_index depths b ≡ suc d → Goes next from b d
  pub begun : slice_index depths from ≡ 1
  pub ordered : (i j : ℕ) → i ≤ j → j < length queue → slice_index depths (slice_index queue i) ≤ slice_index depths (slice_index queue j)
  pub near : (j : ℕ) → j < length queue → head < length queue → slice_index depths (slice_index queue j) ≤ slice_index depths (slice_index queue head) + 1
  pub shallow : (j : ℕ) → j < length queue → slice_index depths (slice_index queue j) ≤ j + 1
  pub closed : (i : ℕ) → i < head → (b : ℕ) → Contains (next (slice_index queue i)) b → (1 ≤ slice_index depths b) × (slice_index depths b ≤ slice_index depths (slice_index queue i) + 1)
  pub asked : (i : ℕ) → i < head → row_of rows i ≡ next (slice_index queue i)
  pub before : (i : ℕ) → i < head → (slice_index depths to ≡ 0) ⊎ (slice_index depths (slice_index queue i) < slice_index depths to)
  pub within : head ≤ length queue
  pub long : length rows ≡ head

-- Nodes found at a step: those with no depth get one, and stand at the end of the queue.
pub record Spreads (old new queue_old queue_new found : List ℕ) (depth : ℕ) : Type 0 where
  pub same_length : length new ≡ length old
  pub more : List ℕ
  pub grown : queue_new ≡ queue_old ++ more
  pub fresh : (b : ℕ) → Contains more b → Contains found b
  pub deep : (b : ℕ) → Contains more b → slice_index new b ≡ depth
  pub count : some_count new ≡ some_count old + length more
  pub kept : (b : ℕ) → 1 ≤ slice_index old b → slice_index new b ≡ slice_index old b
  pub cases : (b : ℕ) → 1 ≤ slice_index new b → (1 ≤ slice_index old b) ⊎ Contains more b
  pub all : (b : ℕ) → Contains found b → 1 ≤ slice_index new b

-- some nodes have a depth
pub record AreFound (depths nodes : List ℕ) : Type 0 where
  pub each : (b : ℕ) → Contains nodes b → 1 ≤ slice_index depths b

-- The search goes on: a node of the queue lies less deep than the target, or the target is not found.
pub record GoesOn (depths queue : List ℕ) (head to : ℕ) : Type 0 where
  pub more : head < length queue
  pub before : (slice_index depths to ≡ 0) ⊎ (slice_index depths (slice_index queue head) < slice_index depths to)

-- The search is at its end: each node less deep than the target was asked, and all were where the target is not found.
pub record IsAtEnd (depths queue : List ℕ) (head to : ℕ) : Type 0 where
  pub end : (length queue ≤ head) ⊎ ((1 ≤ slice_index depths to) × (slice_index depths to ≤ slice_index depths (slice_index queue head)))
