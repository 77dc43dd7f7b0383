-- Numbers one after the other, and lists that are made of them.
use Rattle.std.proofs.Common.{◌≡◌, ℕ, ◌+◌, List, [], ◌∷◌, ◌++◌, map, refl, append_assoc}
use Rattle.std.specs.List.{range_with_len, flat_map}
use Rattle.std.proofs.lemmas.List.FromFn.{map-range_with_len_more}
use Rattle.pol_cursor.proofs.Ranges.{flat_range_more}

-- what is made of one more number, behind a list that has what is made of those before
pub pushed : {X : Type 0} (f : ℕ → X) (front now : List X) (a n j : ℕ) → a + n ≡ j → now ≡ front ++ map f (range_with_len a n) → now ++ f j ∷ [] ≡ front ++ map f (range_with_len a (n + 1))
pushed f front now a n j e is = rw (is, map-range_with_len_more f a n j e) (append_assoc front (map f (range_with_len a n)) (f j ∷ []))

-- lists that are made of the numbers, one behind the other
pub pushed-list : {X : Type 0} (f : ℕ → List X) (now : List X) (n : ℕ) → now ≡ flat_map f (range_with_len 0 n) → now ++ f n ≡ flat_map f (range_with_len 0 (n + 1))
pushed-list f now n is =
    rw (is, flat_range_more f n) refl

-- three parts behind a list
pub three_parts : {X : Type 0} (front a b c : List X) → ((front ++ a) ++ b) ++ c ≡ front ++ ((a ++ b) ++ c)
three_parts front a b c = simp append_assoc
