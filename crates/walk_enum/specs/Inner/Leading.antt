-- The nodes from which the target is reached, as they are found. This serves the code.
use Rattle.std.specs.Prelude.{◌≡◌, ◌⊎◌, ◌≤◌, ◌<◌, ℕ, true, List, [], ◌∷◌, ◌++◌}
use Rattle.std.specs.List.{Contains}
use Rattle.pol_bitmap.specs.Nodes.{bits_of}
use Rattle.walk_enum.specs.declared.leading.Leading.{Leading}
use Rattle.walk_enum.specs.Inner.Cutting.{is_none}

-- one node more among the others, if there is a way on
pub record Notes (old new : Leading) (node depth : ℕ) (ways : List ℕ) : Type 0 where
  pub set : new.set ≡ old.set
  pub cases : ((is_none ways ≡ true) × (new.others.items ≡ old.others.items) × (new.deepest ≡ old.deepest))
      ⊎ ((new.others.items ≡ old.others.items ++ node ∷ []) × (old.deepest ≤ new.deepest) × (depth ≤ new.deepest))

-- the others are put into the set, or none of them lies at a depth
pub record Gathers (old new : Leading) (depth : ℕ) : Type 0 where
  pub set : (c : ℕ) → Contains (bits_of old.set) c → Contains (bits_of new.set) c
  pub cases : (((c : ℕ) → Contains old.others.items c → Contains (bits_of new.set) c) × (new.others.items ≡ []))
      ⊎ ((new.others.items ≡ old.others.items) × (new.deepest ≡ old.deepest) × (new.deepest < depth))
