-- How many walks lead from the nodes of a table to the target.
use Rattle.std.specs.Prelude.{◌≡◌, ◌⊎◌, ◌<◌, ◌+◌, ◌-◌, ◌^◌, ℕ, List, [], ◌∷◌, ◌++◌, length, min, Contains, slice_index, slice_set}
use Rattle.walk_enum.specs.Walks.{walks_along}
use Rattle.walk_enum.specs.Inner.Turns.{row_of, Leads}

-- Each node that has successors stands in a list, before those of its successors that have some; the target has none.
pub record AreOrdered (rows : List (List ℕ)) (order : List ℕ) (to : ℕ) : Type 0 where
  pub listed : (a : ℕ) → (row_of rows a ≡ []) ⊎ ((i : ℕ) × (i < length order) × (slice_index order i ≡ a))
  pub later : (i c : ℕ) → i < length order → Contains (row_of rows (slice_index order i)) c → (row_of rows c ≡ []) ⊎ ((j : ℕ) × (i < j) × (j < length order) × (slice_index order j ≡ c))
  pub ends : row_of rows to ≡ []
  pub target : to < length rows
  pub within : (i : ℕ) → i < length order → slice_index order i < length rows

-- a number of walks, as a u64 has it
abbrev pub capped : ℕ → ℕ
capped count = min count (2 ^ 64 - 1)

-- the sum of numbers of some nodes
abbrev pub total : (ℕ → ℕ) → List ℕ → ℕ
total number [] = 0
total number (a ∷ rest) = number a + total number rest

-- by node, the numbers with that of a node more: the sum of those of its successors, if it has some
abbrev pub noted : List ℕ → ℕ → List ℕ → List ℕ
noted counts a [] = counts
noted counts a (c ∷ cs) = slice_set counts a (capped (total (slice_index counts) (c ∷ cs)))

-- the number of a node is that of the walks from it to the target
abbrev pub IsCount : (ℕ → List ℕ) → ℕ → List ℕ → ℕ → Type 0
IsCount next to counts a = (k : ℕ) → Leads next to a k → slice_index counts a ≡ capped (length (walks_along next a to k))

abbrev pub AreCounts : (ℕ → List ℕ) → ℕ → List ℕ → Type 0
AreCounts next to counts = (a : ℕ) → IsCount next to counts a

-- So many walks come before one that begins by a node of a row, and of the walks by this node so many: the others are those by the nodes in
-- front of it.
pub record IsWay (number : ℕ → ℕ) (row : List ℕ) (before node left : ℕ) : Type 0 where
  pub front : List ℕ
  pub back : List ℕ
  pub is : row ≡ front ++ node ∷ back
  pub sum : before ≡ total number front + left
  pub less : left < number node
