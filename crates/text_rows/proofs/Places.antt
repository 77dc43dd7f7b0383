-- The first place of a byte that passes a test.
use Rattle.std.proofs.Common.{◌≡◌, ℕ, ◌-◌, ◌<◌, List, length, take, drop, get_or, Bool, true, false, not, ltb, ap, refl, Some, None, sym, ◌∙◌, arith, inl, inr}
use Rattle.std.proofs.Math.Seq.{take-length}
use Rattle.std.proofs.lemmas.List.{length-drop}
use Rattle.std.specs.List.{position, position_or_len}
use Rattle.std.proofs.lemmas.Bool.{lt-ltb, false≢true, cases_lt}
use Rattle.std.proofs.lemmas.List.Sums.{fails_before_first}

-- where no place is found, no byte passes
pub none_before : (p : ℕ → Bool) (xs : List ℕ) → None ≡ position p xs → (k : ℕ) → k < length xs → p (get_or xs k 0) ≡ false
none_before p xs is k lt = elim (cases_lt (position_or_len p xs) (length xs)) [
  | inl found ↦ absurd (no_place (lt-ltb (position_or_len p xs) (length xs) found))
  | inr past ↦ fails_before_first p xs k 0 (omega arith)
]
  where
    no_place : ltb (position_or_len p xs) (length xs) ≡ true → ⊥
    no_place h =
        let e : None ≡ Some (position_or_len p xs) = rw h at is in
        cc

-- what `&xs[n..]` is
pub rest_of : (xs : List ℕ) (n : ℕ) → take (length xs - n) (drop n xs) ≡ drop n xs
rest_of xs n = ap (λ (k : ℕ). take k (drop n xs)) (sym (length-drop n xs)) ∙ take-length (drop n xs)

pub not_true : (b : Bool) → not b ≡ true → b ≡ false
not_true true h = absurd (false≢true h)
not_true false h = refl

pub not_false : (b : Bool) → not b ≡ false → b ≡ true
not_false true h = refl
not_false false h = absurd (false≢true (sym h))
