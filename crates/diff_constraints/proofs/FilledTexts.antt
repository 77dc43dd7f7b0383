-- Texts whose sets are filled, and the pieces that they are filled with.
use Rattle.std.proofs.Common.{◌≡◌, ℕ, zero, suc, ◌≤◌, List, [], ◌∷◌, length, drop, min, refl, arith}
use Rattle.diff_constraints.specs.ConstraintDifferences.{set_pieces}

-- ---- pieces

none_right : (sets : List (List (List ℕ))) → set_pieces sets [] ≡ []
none_right [] = refl
none_right (set ∷ sets) = refl

-- behind the end of one of the lists there is no piece
pub no_pieces : (i : ℕ) (old new : List (List (List ℕ))) → min (length old) (length new) ≤ i → set_pieces (drop i old) (drop i new) ≡ []
no_pieces zero [] new le = refl
no_pieces zero (o ∷ old) [] le = refl
no_pieces zero (o ∷ old) (n ∷ new) le = absurd (omega (arith, le))
no_pieces (suc i) [] new le = refl
no_pieces (suc i) (o ∷ old) [] le = none_right (drop i old)
no_pieces (suc i) (o ∷ old) (n ∷ new) le = no_pieces i old new (omega (arith, le))
