-- Where a walk stands among others.
use Rattle.std.specs.Prelude.{◌≡◌, ◌<◌, ℕ, List, [], Bool, true, Option, None, Some, slice_get}
use Rattle.se_walks.specs.declared.walks.Walks.{Walks}
use Rattle.se_walks.specs.declared.walks.Walks.TheVariants.{Shortest, Simple}

-- all walks, and the one of them that is next
abbrev pub all_walks : Walks → List (List ℕ)
all_walks (Shortest walks) = walks.layers
all_walks (Simple walks) = walks.simple.walks

abbrev pub next_walk : Walks → List ℕ
next_walk (Shortest walks) = walks.walk
next_walk (Simple walks) = walks.walk.nodes

-- some walks, of which the first is next
pub record AtFirst (listed : List (List ℕ)) (walks : Walks) : Type 0 where
  pub all : all_walks walks ≡ listed
  pub first : slice_get listed 0 ≡ Some (next_walk walks)

-- such walks, or none where there are none
abbrev pub IsAtFirst : List (List ℕ) → Option Walks → Type 0
IsAtFirst listed None = listed ≡ []
IsAtFirst listed (Some walks) = AtFirst listed walks

-- the walk that is next is the one of that number, counted from 0, and before the end
pub record IsNext (walks : Walks) (number end : ℕ) : Type 0 where
  pub there : slice_get (all_walks walks) number ≡ Some (next_walk walks)
  pub listed : number < end

abbrev pub IsNextIf : Bool → Walks → ℕ → ℕ → Type 0
IsNextIf more walks number end = more ≡ true → IsNext walks number end
