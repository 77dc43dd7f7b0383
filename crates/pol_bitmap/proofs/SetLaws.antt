-- A set is its bits.
use Rattle.std.proofs.Common.{◌≡◌, inl, inr, ℕ, ◌+◌, ◌-◌, ◌%◌, ◌^◌, ◌<◌, ◌≤◌, Bool, true, false, ◌||◌, List, [], ◌∷◌, refl, sym, ap, ◌∙◌, arith}
use Rattle.std.specs.Prelude.{◌==◌, ◌&&◌, nat_le, nat_lt}
use Rattle.std.specs.Int.{bit_at}
use Rattle.std.specs.List.{All, AllByRecursion}
use Rattle.std.proofs.lemmas.Bool.{cases_order, cases_lt, false≢true, le-leb, lt-ltb, or_left, and_from, and_parts, ltb-true}
use Rattle.std.proofs.lemmas.Nat.Bits.{same_from_bits_below, bit_at-lt}
use Rattle.pol_cursor.proofs.BitPlaces.{or_nothing}
use Rattle.pol_bitmap.specs.declared.node.Node.{Node}
use Rattle.pol_bitmap.specs.Nodes.{bits_of, node_has, has_bit}
use Rattle.pol_bitmap.specs.Sets.{IsSet, IsSetFrom, HasSameBits}
use Rattle.pol_bitmap.proofs.BitLists.{has_bit-from_bits, bits-from_has_bit, bits_fit}
use Rattle.pol_bitmap.proofs.Merging.{rising_above, some_bit, node_above, by_digits}

-- two sets have the same bits
abbrev Same : List Node → List Node → Type 0
Same a b = (bit : ℕ) → has_bit a bit ≡ has_bit b bit

tests_same : (p q : Bool) → (p ≡ true → q ≡ true) → (q ≡ true → p ≡ true) → p ≡ q
tests_same true q h k = sym (h refl)
tests_same false true h k = k refl
tests_same false false h k = refl

digits_same : (p q : ℕ) → p < 2 → q < 2 → (p == 1) ≡ (q == 1) → p ≡ q
digits_same = by_digits (λ p q. (p == 1) ≡ (q == 1) → p ≡ q) (λ e. refl) (λ e. absurd (false≢true e)) (λ e. absurd (false≢true (sym e))) (λ e. refl)

-- A set that is not empty has a bit that a set of later nodes does not have.
no_earlier : (low high : ℕ) (n : Node) (ns b : List Node) → IsSetFrom low (n ∷ ns) → IsSetFrom high b → n.start + 64 ≤ high → Same (n ∷ ns) b → ⊥
no_earlier low high n ns b h k le same =
    let one = some_bit n h.0.2 h.1.0.1 in
    let there : has_bit (n ∷ ns) one.0 ≡ true = or_left (node_has one.0 n) (has_bit ns one.0) one.1 in
    let p = and_parts (nat_le n.start one.0 && nat_lt one.0 (n.start + 64)) _ one.1 in
    let below : one.0 < n.start + 64 = ltb-true one.0 (n.start + 64) (and_parts (nat_le n.start one.0) _ p.0).1 in
    false≢true (sym (rising_above high b one.0 k.0 (omega arith)) ∙ sym (same one.0) ∙ there)

-- the first node's test at one of its 64 places
first_has : (base k : ℕ) (n : Node) (ns : List Node) → k < 64 → IsSetFrom base (n ∷ ns) → has_bit (n ∷ ns) (n.start + k) ≡ (bit_at n.map k == 1)
first_has base k n ns lt h =
    let back : n.start + k - n.start ≡ k = omega arith in
    let guard : (nat_le n.start (n.start + k) && nat_lt (n.start + k) (n.start + 64)) ≡ true = and_from _ _ (le-leb n.start (n.start + k) (omega arith)) (lt-ltb (n.start + k) (n.start + 64) (omega arith)) in
    ap (λ (b : Bool). node_has (n.start + k) n || b) (rising_above (n.start + 64) ns (n.start + k) h.0.3 (omega arith)) ∙ or_nothing (node_has (n.start + k) n)
    ∙ ap (λ (b : Bool). b && (bit_at n.map (n.start + k - n.start) == 1)) guard ∙ ap (λ (i : ℕ). bit_at n.map i == 1) back

rest_same : (low high : ℕ) (n m : Node) (ns ms : List Node) → n.start ≡ m.start → IsSetFrom low (n ∷ ns) → IsSetFrom high (m ∷ ms) → Same (n ∷ ns) (m ∷ ms) → Same ns ms
rest_same low high n m ns ms e h k same bit = elim (cases_lt bit (n.start + 64)) [
  | inl lt ↦ rising_above (n.start + 64) ns bit h.0.3 lt ∙ sym (rising_above (m.start + 64) ms bit k.0.3 (omega arith))
  | inr le ↦ sym (ap (λ (b : Bool). b || has_bit ns bit) (node_above bit n le)) ∙ same bit ∙ ap (λ (b : Bool). b || has_bit ms bit) (node_above bit m (omega arith))
]

maps_same : (low high : ℕ) (n m : Node) (ns ms : List Node) → n.start ≡ m.start → IsSetFrom low (n ∷ ns) → IsSetFrom high (m ∷ ms) → Same (n ∷ ns) (m ∷ ms) → n.map ≡ m.map
maps_same low high n m ns ms e h k same = same_from_bits_below 64 n.map m.map h.1.0.1 k.1.0.1 λ i lt.
    digits_same (bit_at n.map i) (bit_at m.map i) (bit_at-lt n.map i) (bit_at-lt m.map i)
    (sym (first_has low i n ns lt h) ∙ same (n.start + i) ∙ ap (λ (s : ℕ). has_bit (m ∷ ms) (s + i)) e ∙ first_has high i m ms lt k)

apart : (x y : ℕ) → x % 64 ≡ 0 → y % 64 ≡ 0 → x < y → x + 64 ≤ y
apart x y p q lt = omega arith

from_start : (base : ℕ) (n : Node) (ns : List Node) → IsSetFrom base (n ∷ ns) → IsSetFrom n.start (n ∷ ns)
from_start base n ns h = ((omega arith, h.0.1, h.0.2, h.0.3), h.1)

pub sets_same : (low high : ℕ) (a b : List Node) → IsSetFrom low a → IsSetFrom high b → Same a b → a ≡ b
sets_same low high [] [] h k same = refl
sets_same low high [] (m ∷ ms) h k same = absurd (no_earlier high (m.start + 64) m ms [] k (tt, tt) (omega arith) (λ bit. sym (same bit)))
sets_same low high (n ∷ ns) [] h k same = absurd (no_earlier low (n.start + 64) n ns [] h (tt, tt) (omega arith) same)
sets_same low high (n ∷ ns) (m ∷ ms) h k same = elim (cases_order n.start m.start) [
  | inl start ↦
      let map : n.map ≡ m.map = maps_same low high n m ns ms start h k same in
      let node : n ≡ m = λ i. record { start = start i; map = map i } in
      let rest : ns ≡ ms = sets_same (n.start + 64) (m.start + 64) ns ms (h.0.3, h.1.1) (k.0.3, k.1.1) (rest_same low high n m ns ms start h k same) in
      ap (λ (x : Node). x ∷ ns) node ∙ ap (λ (xs : List Node). m ∷ xs) rest
  | inr (inl lt) ↦ absurd (no_earlier low m.start n ns (m ∷ ms) h (from_start high m ms k) (apart n.start m.start h.0.1 k.0.1 lt) same)
  | inr (inr gt) ↦ absurd (no_earlier high n.start m ms (n ∷ ns) k (from_start low n ns h) (apart m.start n.start k.0.1 h.0.1 gt) (λ bit. sym (same bit)))
]

pub sets_same_bits : (a b : List Node) → IsSet a → IsSet b → HasSameBits (bits_of a) (bits_of b) → a ≡ b
sets_same_bits a b h k same = sets_same 0 0 a b h k λ bit. tests_same (has_bit a bit) (has_bit b bit)
    (λ p. has_bit-from_bits b bit ((same.each bit).0 (bits-from_has_bit a bit p)))
    (λ p. has_bit-from_bits a bit ((same.each bit).1 (bits-from_has_bit b bit p)))

starts_fit : (base : ℕ) (ns : List Node) → IsSetFrom base ns → AllByRecursion (λ n. n.start < 2 ^ 32) ns
starts_fit base [] h = tt
starts_fit base (n ∷ ns) h = (h.1.0.0, starts_fit (n.start + 64) ns (h.0.3, h.1.1))

pub set_bits_fit : (a : List Node) → IsSet a → All (λ bit. bit < 2 ^ 32) (bits_of a)
set_bits_fit a h = bits_fit 0 a h.0 (starts_fit 0 a h)
