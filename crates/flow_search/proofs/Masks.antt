-- Bits of masks.
use Rattle.std.proofs.Common.{◌≡◌, ◌≢◌, ℕ, ◌*◌, ◌^◌, ◌<◌, ◌≤◌, ◌/◌, ◌%◌, Bool, true, false, ◌&&◌, ◌||◌, not, eqb, refl, sym, ap, ◌∙◌, arith}
use Rattle.std.specs.Prelude.{bit_and, bit_or}
use Rattle.std.specs.Int.{bit_at}
use Rattle.std.proofs.Math.Nat.{div-eq_of_lt, pow-le-pow_right, zero-mul}
use Rattle.std.proofs.lemmas.Bool.{eqb-true, eqb-false}
use Rattle.std.proofs.lemmas.Nat.{and_comm, and_le_l, and_or_apart}
use Rattle.std.proofs.lemmas.Nat.Bits.{and_pow, bit_at_and, bit_at_or, bit_at-pow_same, bit_at-zero, bit_at-lt}
use Rattle.flow_search.specs.Inner.WeightTables.{shares_bit}

-- a mask has no bit past its own
pub past_mask : (mask place : ℕ) → mask < 2 ^ 32 → 32 ≤ place → eqb (bit_at mask place) 1 ≡ false
past_mask mask place small past =
    let two : 0 < 2 = omega arith in
    let high : 2 ^ 32 ≤ 2 ^ place = pow-le-pow_right two past in
    let within : mask < 2 ^ place = omega (arith, small, high) in
    let none : mask / 2 ^ place ≡ 0 = div-eq_of_lt within in
    ap (λ (n : ℕ). eqb (n % 2) 1) none

-- ---- shared bits

or_false : (b : Bool) → b ≡ (b || false)
or_false true = refl
or_false false = refl

or_true : (b : Bool) → true ≡ (b || true)
or_true true = refl
or_true false = refl

none_left : (n : ℕ) → n ≡ 0 → not (eqb n 0) ≡ false
none_left n e = rw e refl

some_left : (n : ℕ) → n ≢ 0 → (b : Bool) → eqb n 0 ≡ b → not b ≡ true
some_left n h true e = absurd (h (eqb-true n 0 e))
some_left n h false e = refl

pub no_bits : (mask : ℕ) → shares_bit mask 0 ≡ false
no_bits mask = none_left (bit_and 0 mask) (let h = and_le_l 0 mask in omega (arith, h))

-- a mask without a bit shares nothing with it
clear : (mask place : ℕ) → eqb (bit_at mask place) 1 ≡ false → bit_and (2 ^ place) mask ≡ 0
clear mask place e =
    let below = bit_at-lt mask place in
    let other = eqb-false (bit_at mask place) 1 e in
    let none : bit_at mask place ≡ 0 = omega (arith, below, other) in
    and_comm (2 ^ place) mask ∙ and_pow mask place ∙ ap (λ (b : ℕ). b * 2 ^ place) none ∙ zero-mul (2 ^ place)

-- a mask with a bit shares it
there : (mask bits place : ℕ) → eqb (bit_at mask place) 1 ≡ true → bit_and (bit_or bits (2 ^ place)) mask ≢ 0
there mask bits place e none =
    let one = eqb-true (bit_at mask place) 1 e in
    let same = bit_at-pow_same place in
    let joined = bit_at_or bits (2 ^ place) place in
    let both = bit_at_and (bit_or bits (2 ^ place)) mask place in
    let gone = ap (λ (n : ℕ). bit_at n place) none ∙ bit_at-zero place in
    let most = bit_at-lt bits place in
    omega (arith, one, same, joined, both, gone, most)

-- one bit more
pub one_more : (mask bits place : ℕ) → shares_bit mask (bit_or bits (2 ^ place)) ≡ (shares_bit mask bits || eqb (bit_at mask place) 1)
one_more mask bits place = by (eqb (bit_at mask place) 1) refl
  where
    by : (has : Bool) → eqb (bit_at mask place) 1 ≡ has → shares_bit mask (bit_or bits (2 ^ place)) ≡ (shares_bit mask bits || has)
    by true e = some_left (bit_and (bit_or bits (2 ^ place)) mask) (there mask bits place e) (eqb (bit_and (bit_or bits (2 ^ place)) mask) 0) refl ∙ or_true (shares_bit mask bits)
    by false e = ap (λ (n : ℕ). not (eqb n 0)) (and_or_apart mask bits (2 ^ place) (clear mask place e)) ∙ or_false (shares_bit mask bits)

-- a bit that belongs to others, which there is below place 32
pub with_more : (mask bits bit place : ℕ) (belongs : Bool) → bit ≡ 2 ^ place → belongs ≡ true → shares_bit mask (bit_or bits bit) ≡ (shares_bit mask bits || (belongs && eqb (bit_at mask place) 1))
with_more mask bits bit place true is belongs = ap (λ (b : ℕ). shares_bit mask (bit_or bits b)) is ∙ one_more mask bits place
with_more mask bits bit place false is belongs = absurd cc

-- one that does not, or is past the mask
pub with_none : (mask bits place : ℕ) (belongs : Bool) → mask < 2 ^ 32 → (belongs ≡ true → 32 ≤ place) → shares_bit mask bits ≡ (shares_bit mask bits || (belongs && eqb (bit_at mask place) 1))
with_none mask bits place true small past = or_false (shares_bit mask bits) ∙ ap (λ (has : Bool). shares_bit mask bits || has) (sym (past_mask mask place small (past refl)))
with_none mask bits place false small past = or_false (shares_bit mask bits)
