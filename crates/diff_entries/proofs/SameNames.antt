-- Lists of names that are compared where they stand.
use Rattle.std.proofs.Common.{◌≡◌, ℕ, Bool, List, [], ◌∷◌, Bor, map, refl, ap}
use Rattle.std.specs.Prelude.{◌==◌, ◌&&◌}
use Rattle.std.specs.Cmp.Lexicographic.{pointwise}
use Rattle.diff_entries.specs.Parts.{same_names}

pub same_by_bytes : (names others : List (Bor (List ℕ)))
    → pointwise (λ (x y : Bor (List ℕ)). pointwise ◌==◌ x.now y.now) names others ≡ same_names (map (λ name. name.now) names) (map (λ name. name.now) others)
same_by_bytes [] [] = refl
same_by_bytes [] (y ∷ ys) = refl
same_by_bytes (x ∷ xs) [] = refl
same_by_bytes (x ∷ xs) (y ∷ ys) = ap (λ b. pointwise ◌==◌ x.now y.now && b) (same_by_bytes xs ys)
