-- Numbers of few digits.
use Rattle.std.proofs.Common.{◌≡◌, inl, inr, ℕ, ◌+◌, ◌-◌, ◌*◌, ◌^◌, ◌<◌, ◌≤◌, List, length, get_or, take, true, leb, sym, ap, ◌∙◌, add-one, arith}
use Rattle.std.proofs.Math.Nat.{pow-le-pow_right, pow-suc}
use Rattle.std.proofs.lemmas.Bool.{and_parts, cases_Bool, false≢true, leb-true}
use Rattle.std.proofs.lemmas.List.Folds.{list_all_at}
use Rattle.std.proofs.lemmas.List.Sums.{fold_more}
use Rattle.std.specs.List.{list_all}
use Rattle.perm_map.specs.MapFields.{decimal, is_digit}

digit_within : (byte : ℕ) → is_digit byte ≡ true → (48 ≤ byte) × (byte ≤ 57)
digit_within byte h =
    let parts = and_parts (leb 48 byte) (leb byte 57) h in
    (leb-true 48 byte parts.0, leb-true byte 57 parts.1)

pub digit_at : (text : List ℕ) (i : ℕ) → i < length text → list_all is_digit text ≡ true → (48 ≤ get_or text i 0) × (get_or text i 0 ≤ 57)
digit_at text i lt all = elim (cases_Bool (is_digit (get_or text i 0))) [
  | inl digit ↦ digit_within (get_or text i 0) digit
  | inr other ↦ absurd (false≢true (sym (list_all_at is_digit text i 0 lt other) ∙ all))
]

-- a number with one more digit
pub one_more_digit : (number digit i : ℕ) → number < 10 ^ i → 48 ≤ digit → digit ≤ 57 → number * 10 + (digit - 48) < 10 ^ (i + 1)
one_more_digit number digit i small low high =
    let e : 10 ^ (i + 1) ≡ 10 ^ i * 10 = ap (λ (k : ℕ). 10 ^ k) (add-one i) ∙ pow-suc 10 i in
    omega (arith, e)

-- eight digits
pub few_digits : (number i : ℕ) → number < 10 ^ i → i ≤ 8 → number < 100000000
few_digits number i small few =
    let ten : 0 < 10 = omega arith in
    let most : 10 ^ i ≤ 10 ^ 8 = pow-le-pow_right ten few in
    omega (arith, most)

pub decimal_more : (text : List ℕ) (i : ℕ) → i < length text → decimal (take (i + 1) text) ≡ decimal (take i text) * 10 + (get_or text i 0 - 48)
decimal_more text i lt = fold_more (λ number digit. number * 10 + (digit - 48)) 0 text i 0 lt
