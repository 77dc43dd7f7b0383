-- Numbers by their digits.
use Rattle.std.proofs.Common.{◌≡◌, ◌∙◌, ℕ, suc, ◌+◌, ◌*◌, ◌^◌, ◌<◌, ◌≤◌, Bool, true, false, Some, None, List, [], ◌∷◌, length, drop, slice_index, refl, sym, ap, add-one, drop-cons, arith}
use Rattle.std.proofs.lemmas.List.{drop_all}
use Rattle.std.specs.Prelude.{◌&&◌, nat_le, unwrap_or, if◌then◌else◌}
use Rattle.std.specs.List.{list_all}
use Rattle.std.proofs.Math.Nat.{add-mul, add_assoc, mul_assoc, mul_comm}
use Rattle.std.proofs.lemmas.Bool.{leb-true, le-leb}
use Rattle.std.proofs.lemmas.Grind.{pow_more}
use Rattle.rule_tests.specs.AskedNumbers.{digit, is_digit, number_of_all, value_of}
use Rattle.rule_tests.specs.Inner.DigitNumbers.{number_behind, value_behind}

-- digits behind a number make it no smaller
at_least : (value : ℕ) (digits : List ℕ) → value ≤ value_behind value digits
unfolding value_behind
at_least value [] = omega arith
at_least value (byte ∷ bytes) = let later = at_least (value * 16 + unwrap_or (digit byte) 0) bytes in omega (arith, later)

-- ---- one digit

pub no_digit : (value byte : ℕ) (bytes : List ℕ) → digit byte ≡ None → number_behind value (byte ∷ bytes) ≡ None
no_digit value byte bytes e = rw e refl

pub next_digit : (value byte d : ℕ) (bytes : List ℕ) → digit byte ≡ Some d → number_behind value (byte ∷ bytes) ≡ number_behind (value * 16 + d) bytes
unfolding value_behind
next_digit value byte d bytes e = rw e refl

too_large : (value : ℕ) (digits : List ℕ) (a b : Bool) → nat_le (value_behind value digits) 65535 ≡ b → 65535 < value → (if a && b then Some (value_behind value digits) else None) ≡ None
too_large value digits true true is lt = let h = leb-true (value_behind value digits) 65535 is in let k = at_least value digits in absurd (omega (arith, h, k, lt))
too_large value digits true false is lt = refl
too_large value digits false b is lt = refl

pub passed : (value : ℕ) (digits : List ℕ) → 65535 < value → number_behind value digits ≡ None
passed value digits lt = too_large value digits (list_all is_digit digits) (nat_le (value_behind value digits) 65535) refl lt

pub ended : (value : ℕ) → value ≤ 65535 → number_behind value [] ≡ Some value
unfolding value_behind
ended value le = rw (le-leb value 65535 le) refl

-- ---- digits from a place on

pub none_at : (value i : ℕ) (digits : List ℕ) → i < length digits → digit (slice_index digits i) ≡ None → number_behind value (drop i digits) ≡ None
none_at value i digits lt e = rw (drop-cons digits i 0 lt) (no_digit value (slice_index digits i) (drop (suc i) digits) e)

pub next_at : (value i d : ℕ) (digits : List ℕ) → i < length digits → digit (slice_index digits i) ≡ Some d → number_behind value (drop i digits) ≡ number_behind (value * 16 + d) (drop (i + 1) digits)
next_at value i d digits lt e = rw (add-one, drop-cons digits i 0 lt) (next_digit value (slice_index digits i) d (drop (suc i) digits) e)

pub end_at : (value i : ℕ) (digits : List ℕ) → length digits ≤ i → value ≤ 65535 → number_behind value (drop i digits) ≡ Some value
end_at value i digits past le = rw (drop_all i digits past) (ended value le)

-- ---- all digits

times_more : (value d p : ℕ) → (value * 16 + d) * p ≡ value * (p * 16) + d * p
times_more value d p = add-mul (value * 16) d p ∙ ap (λ (n : ℕ). n + d * p) (mul_assoc value 16 p ∙ ap (λ (n : ℕ). value * n) (mul_comm 16 p))

-- a number counts for more with each digit behind it
behind : (value : ℕ) (digits : List ℕ) → value_behind value digits ≡ value * 16 ^ length digits + value_of digits
unfolding value_behind value_of
behind value [] = omega arith
behind value (byte ∷ bytes) =
    let d = unwrap_or (digit byte) 0 in
    let p = 16 ^ length bytes in
    let more : 16 ^ (length bytes + 1) ≡ p * 16 = pow_more 16 (length bytes) in
    let one : length bytes + 1 ≡ suc (length bytes) = omega arith in
    behind (value * 16 + d) bytes
    ∙ ap (λ (n : ℕ). n + value_of bytes) (times_more value d p ∙ ap (λ (n : ℕ). value * n + d * p) (sym more ∙ ap (λ (n : ℕ). 16 ^ n) one))
    ∙ add_assoc (value * 16 ^ suc (length bytes)) (d * p) (value_of bytes)

pub all_digits : (digits : List ℕ) → number_behind 0 digits ≡ number_of_all digits
all_digits digits =
    let e : value_behind 0 digits ≡ value_of digits = behind 0 digits ∙ (omega arith) in
    rw e refl
