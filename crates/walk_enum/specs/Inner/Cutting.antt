-- Successors cut to those that lead on to the target.
use Rattle.std.specs.Prelude.{◌≡◌, ◌⊎◌, ◌≤◌, ◌<◌, ◌-◌, ℕ, Bool, true, false, ◌&&◌, ◌||◌, ◌==◌, not, List, [], ◌∷◌, length, slice_index, Contains}
use Rattle.std.specs.List.{filter}
use Rattle.walk_enum.specs.Walks.{walks_along}
use Rattle.walk_enum.specs.Inner.Turns.{row_of}
use Rattle.walk_enum.specs.Inner.Exploring.{Explores, IsAtEnd}

abbrev pub is_none : {X : Type 0} → List X → Bool
is_none [] = true
is_none (x ∷ xs) = false

-- a node lies at a depth, and is the target or has successors that lead to it
abbrev pub goes_on : List ℕ → List (List ℕ) → ℕ → ℕ → ℕ → Bool
goes_on depths rows to depth c = (slice_index depths c == depth) && ((c == to) || not (is_none (row_of rows c)))

-- whether there is a walk of so many steps to the target
abbrev pub leads_in : (ℕ → List ℕ) → ℕ → ℕ → ℕ → Bool
leads_in next to k c = not (is_none (walks_along next c to k))

-- The target, and each node that has successors that lead to it, are in a set or among others. Those others lie no deeper than a depth.
pub record AreLeading (depths : List ℕ) (kept : List (List ℕ)) (to : ℕ) (set others : List ℕ) (deepest : ℕ) : Type 0 where
  pub target : Contains set to
  pub each : (c : ℕ) → is_none (row_of kept c) ≡ false → Contains set c ⊎ Contains others c
  pub deep : (c : ℕ) → Contains others c → slice_index depths c ≤ deepest

-- The nodes that were asked, from a place of the queue on, have the rows of their successors that lead to the target in as many steps as
-- are left. No other nodes have rows.
pub record Cuts (next : ℕ → List ℕ) (to : ℕ) (depths queue : List ℕ) (kept : List (List ℕ)) (head place : ℕ) : Type 0 where
  pub long : length kept ≡ length depths
  pub done : (i : ℕ) → place ≤ i → i < head → row_of kept (slice_index queue i) ≡ filter (leads_in next to (slice_index depths to - 1 - slice_index depths (slice_index queue i))) (next (slice_index queue i))
  pub none : (b : ℕ) → (row_of kept b ≡ []) ⊎ ((i : ℕ) × (place ≤ i) × (i < head) × (slice_index queue i ≡ b))

-- that is so wherever a search is at its end and has found the target
abbrev pub IsCut : List ℕ → List ℕ → List (List ℕ) → ℕ → List (List ℕ) → ℕ → Type 0
IsCut depths queue rows to kept place = (next : ℕ → List ℕ) (nodes from : ℕ) → Explores next nodes from to depths queue rows (length rows) → IsAtEnd depths queue (length rows) to → 1 ≤ slice_index depths to → Cuts next to depths queue kept (length rows) place
