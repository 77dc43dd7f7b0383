-- Entries in rows by a key, as they come.
use Rattle.std.specs.Prelude.{◌≡◌, ℕ, zero, suc, Bool, List, [], ◌∷◌, ◌++◌, map}
use Rattle.std.specs.List.{filter}
use Rattle.pol_convert.specs.Grouped.{firsts}

-- rows with an element added to that of a place, or in a new one at the end
abbrev pub with_row : {A : Type 0} → ℕ → List (List A) → A → List (List A)
with_row place [] x = (x ∷ []) ∷ []
with_row zero (row ∷ rows) x = (row ++ x ∷ []) ∷ rows
with_row (suc place) (row ∷ rows) x = row ∷ with_row place rows x

-- the elements of each key
abbrev pub rows_of : {K A : Type 0} → (K → K → Bool) → (A → K) → List K → List A → List (List A)
rows_of same key_of keys xs = map (λ key. filter (λ x. same key (key_of x)) xs) keys

-- the keys of elements, in the order in which they are first met, and the elements of each key
pub record AreInRows {K A : Type 0} (same : K → K → Bool) (key_of : A → K) (keys : List K) (rows : List (List A)) (xs : List A) : Type 0 where
  pub order : keys ≡ firsts same (map key_of xs)
  pub each : rows ≡ rows_of same key_of keys xs
