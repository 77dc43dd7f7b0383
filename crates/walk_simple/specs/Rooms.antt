-- A walk in the memory that it has, and all walks with the most steps that they may have.
use Rattle.std.specs.Prelude.{ℕ, List}

-- the nodes of a walk, and the number of nodes that there is room for
pub record WalkInRoom : Type 0 where
  pub nodes : List ℕ
  pub room : ℕ

-- the walks in their order, of at most so many steps
pub record AllWalks : Type 0 where
  pub walks : List (List ℕ)
  pub most : ℕ
