-- Keys in an order that compares them, each once, and where lists have them.
use Rattle.std.specs.Prelude.{◌≡◌, ℕ, Bool, Option, List, [], ◌∷◌, ◌++◌}
use Rattle.std.specs.List.{position_from}
use Rattle.std.specs.Ordering.{is_eq, match_ordering}
use Rattle.std.specs.Cmp.{IsTotalOrder}
use Rattle.std.specs.declared.cmp.Ordering.{Ordering}
use Rattle.std.specs.declared.cmp.Ordering.TheVariants.{Equal}
use Rattle.keyed_lists.specs.declared.pairing.Places.{Places}

-- an order in which keys that compare as equal are the same
pub record IsKeyOrder {K : Type 0} (cmp : K → K → Ordering) : Type 0 where
  pub total : IsTotalOrder cmp
  pub same : (a b : K) → cmp a b ≡ Equal → a ≡ b

-- keys in order, and one more at its place, where it is not there yet
abbrev pub with_key : {K : Type 0} → (K → K → Ordering) → K → List K → List K
with_key cmp key [] = key ∷ []
with_key cmp key (other ∷ keys) = match_ordering (cmp key other) (key ∷ other ∷ keys) (other ∷ keys) (other ∷ with_key cmp key keys)

-- some keys in order, each once
abbrev pub keys_in_order : {K : Type 0} → (K → K → Ordering) → List K → List K
keys_in_order cmp [] = []
keys_in_order cmp (key ∷ keys) = with_key cmp key (keys_in_order cmp keys)

-- the keys of two lists in order, each once
abbrev pub keys_of_both : {K : Type 0} → (K → K → Ordering) → List K → List K → List K
keys_of_both cmp first second = keys_in_order cmp (first ++ second)

-- the first place of a key in a list, from 0 on
abbrev pub place_in : {K : Type 0} → (K → K → Ordering) → List K → K → Option ℕ
place_in cmp keys key = position_from (λ other. is_eq (cmp other key)) 0 keys

-- the first places of a key in two lists
abbrev pub places_of : {K : Type 0} → (K → K → Ordering) → List K → List K → K → Places
places_of cmp first second key = record { first = place_in cmp first key; second = place_in cmp second key }
