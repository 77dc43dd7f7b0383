-- The numbers that a pool gives to sets.
use Rattle.std.specs.Prelude.{◌≡◌, ◌<◌, ◌++◌, ◌∷◌, [], ◌⊎◌, ℕ, List, length, Some, slice_get, Contains}
use Rattle.pol_bitmap.specs.declared.node.Node.{Node}

-- The number of a set: that of the equal one that is kept, or else the next one, and the sets of the numbers before stay.
abbrev pub IsNumberOf : List (List Node) → List (List Node) → List Node → ℕ → Type 0
IsNumberOf old new nodes n =
    ((n < length old) × (new ≡ old) × (slice_get old n ≡ Some nodes))
    ⊎ ((n ≡ length old) × (new ≡ old ++ nodes ∷ []) × (Contains old nodes → ⊥))
