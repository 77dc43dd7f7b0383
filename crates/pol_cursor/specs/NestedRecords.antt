-- Records that stand one behind the other, each where the one before it ends.
use Rattle.std.specs.Prelude.{ℕ, zero, suc, ◌+◌, List, [], ◌∷◌}
use Rattle.pol_cursor.specs.References.{Placed}

-- n records from a place on, where a record is what stands at its place
unfoldable pub nested_in : {A : Type 0} → (List ℕ → ℕ → A) → (List ℕ → ℕ → ℕ) → List ℕ → ℕ → ℕ → List (Placed A)
nested_in standing ends bytes place zero = []
nested_in standing ends bytes place (suc n) = record { place = place; value = standing bytes place } ∷ nested_in standing ends bytes (ends bytes place) n

-- the place behind them
unfoldable pub nested_end : (List ℕ → ℕ → ℕ) → List ℕ → ℕ → ℕ → ℕ
nested_end ends bytes place zero = place
nested_end ends bytes place (suc n) = nested_end ends bytes (ends bytes place) n

-- they stand there
unfoldable pub HasNested : (List ℕ → ℕ → Type 0) → (List ℕ → ℕ → ℕ) → List ℕ → ℕ → ℕ → Type 0
HasNested has ends bytes place zero = Unit {0}
HasNested has ends bytes place (suc n) = has bytes place × HasNested has ends bytes (ends bytes place) n

-- records from a place on, one behind the other, by their lengths
unfoldable pub placed_from : {A : Type 0} → (A → ℕ) → ℕ → List A → List (Placed A)
placed_from length_of place [] = []
placed_from length_of place (x ∷ xs) = record { place = place; value = x } ∷ placed_from length_of (place + length_of x) xs

-- how long they are together
unfoldable pub length_together : {A : Type 0} → (A → ℕ) → List A → ℕ
length_together length_of [] = 0
length_together length_of (x ∷ xs) = length_of x + length_together length_of xs
