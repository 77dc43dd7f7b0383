-- Counts that stop at the greatest number.
use Rattle.std.proofs.Common.{◌≡◌, ℕ, ◌+◌, ◌-◌, ◌^◌, ◌<◌, List, ◌++◌, length, get_or, take, arith}
use Rattle.std.specs.Prelude.{min}
use Rattle.std.specs.List.{flat_map}
use Rattle.std.proofs.lemmas.List.{length-append, take_more}
use Rattle.se_items.proofs.Gains.{texts-more}

-- the bytes of a second text are counted after those of a first
pub counts_then : (start middle total : ℕ) (s t : List ℕ) → middle ≡ min (start + length s) (2 ^ 64 - 1) → total ≡ min (middle + length t) (2 ^ 64 - 1) → total ≡ min (start + length (s ++ t)) (2 ^ 64 - 1)
counts_then start middle total s t first then = omega (arith, length-append s t, first, then)

-- the bytes of one record more are counted
pub counts_next : {A : Type 0} (f : A → List ℕ) (xs : List A) (i : ℕ) (d : A) (start total next : ℕ) → i < length xs → total ≡ min (start + length (flat_map f (take i xs))) (2 ^ 64 - 1)
    → next ≡ min (total + length (f (get_or xs i d))) (2 ^ 64 - 1) → next ≡ min (start + length (flat_map f (take (i + 1) xs))) (2 ^ 64 - 1)
counts_next f xs i d start total next lt so_far one =
    rw (take_more xs i d lt, texts-more f (take i xs) (get_or xs i d)) (counts_then start total next (flat_map f (take i xs)) (f (get_or xs i d)) so_far one)
