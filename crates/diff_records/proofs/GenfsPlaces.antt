-- All paths are taken where no name is asked for.
use Rattle.std.proofs.Common.{◌≡◌, ℕ, List, [], ◌∷◌, None, refl, ap}
use Rattle.info_contexts.specs.NamedEntries.{of_name}

pub all_places : {A : Type 0} (name_of : A → List ℕ) (places : List A) → of_name name_of None places ≡ places
all_places name_of [] = refl
all_places name_of (place ∷ places) = ap (λ rest. place ∷ rest) (all_places name_of places)
