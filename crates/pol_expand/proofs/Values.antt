-- Values of sets, and values that pass a test.
use Rattle.std.proofs.Common.{◌≡◌, ℕ, ◌+◌, ◌<◌, Bool, true, false, List, refl, sym, ◌↔◌, arith}
use Rattle.std.specs.Prelude.{IsTrue}
use Rattle.std.specs.List.{Contains, filter, range_with_len}
use Rattle.std.specs.List.Sorted.{IsStrictlyIncreasing}
use Rattle.std.proofs.lemmas.List.Kept.{IsStrictlyIncreasing-filter}
use Rattle.std.proofs.lemmas.List.FromFn.{length-range_with_len, get_or-range_with_len}
use Rattle.pol_bitmap.specs.declared.node.Node.{Node}
use Rattle.pol_bitmap.specs.Nodes.{bits_of, has_bit}
use Rattle.pol_bitmap.proofs.BitLists.{has_bit-from_bits, bits-from_has_bit}

pub same_tests : (p q : Bool) → (p ≡ true → q ≡ true) → (q ≡ true → p ≡ true) → p ≡ q
same_tests true q h k = sym (h refl)
same_tests false true h k = k refl
same_tests false false h k = refl

-- what a set answers is the test of its nodes
pub has_is : (r : Bool) (ns : List Node) (bit : ℕ) → IsTrue r ↔ Contains (bits_of ns) bit → r ≡ has_bit ns bit
has_is r ns bit h = same_tests r (has_bit ns bit) (λ t. has_bit-from_bits ns bit (h.0 t)) (λ t. h.1 (bits-from_has_bit ns bit t))

-- ---- the values from a on

range_rises : (a n : ℕ) → IsStrictlyIncreasing (range_with_len a n)
range_rises a n k lt =
    let whole = length-range_with_len a n in
    let first : k < n = omega arith in
    let second : k + 1 < n = omega arith in
    omega (arith, get_or-range_with_len a n k 0 first, get_or-range_with_len a n (k + 1) 0 second)

pub filter_rises : (p : ℕ → Bool) (a n : ℕ) → IsStrictlyIncreasing (filter p (range_with_len a n))
filter_rises p a n = IsStrictlyIncreasing-filter p (range_with_len a n) (range_rises a n)
