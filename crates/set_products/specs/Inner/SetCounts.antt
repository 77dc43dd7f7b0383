-- The counts of the sets of a pool.
use Rattle.std.specs.Prelude.{◌≡◌, ℕ, List, All, length, map}
use Rattle.pol_bitmap.specs.declared.Node.{Node}
use Rattle.pol_bitmap.specs.Nodes.{bits_of}
use Rattle.pol_bitmap.specs.Sets.{IsSet}

-- Each number is how many bits the set at its place has, and the sets have their one form.
pub record AreCounts (sets : List (List Node)) (counts : List ℕ) : Type 0 where
  pub form : All IsSet sets
  pub right : counts ≡ map (λ set. length (bits_of set)) sets
