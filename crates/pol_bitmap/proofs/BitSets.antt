-- Sets by the lists of their bits.
use Rattle.std.proofs.Common.{◌≡◌, ◌↔◌, ◌⊎◌, inl, inr, ℕ, Bool, true, false, refl, ◌||◌, List, [], sym, ◌∙◌}
use Rattle.std.specs.Prelude.{◌&&◌, IsTrue}
use Rattle.std.proofs.lemmas.Bool.{false≢true, or_cases, or_left, or_right, and_parts, and_from}
use Rattle.pol_bitmap.specs.declared.node.Node.{Node}
use Rattle.pol_bitmap.specs.Nodes.{bits_of, has_bit}
use Rattle.pol_bitmap.specs.Sets.{IsUnion, IsCommon, IsDifference, ShareBit, ContainsEach}
use Rattle.pol_bitmap.proofs.Merging.{IsByBits, Merging, Merging-none, common_none, only_left}
use Rattle.pol_bitmap.proofs.BitLists.{has_bit-from_bits, bits-from_has_bit}

pub union_bits : (a b c : List Node) → IsByBits ◌||◌ a b c → IsUnion (bits_of a) (bits_of b) (bits_of c)
union_bits a b c h = record {
  each = λ bit. (
    λ there. elim (or_cases _ _ (sym (h bit) ∙ has_bit-from_bits c bit there)) [
      | inl left ↦ inl (bits-from_has_bit a bit left)
      | inr right ↦ inr (bits-from_has_bit b bit right)
    ],
    λ either. bits-from_has_bit c bit (h bit ∙ elim either [
      | inl left ↦ or_left (has_bit a bit) (has_bit b bit) (has_bit-from_bits a bit left)
      | inr right ↦ or_right (has_bit a bit) (has_bit b bit) (has_bit-from_bits b bit right)
    ]),
  );
}

pub common_bits : (a b c : List Node) → IsByBits ◌&&◌ a b c → IsCommon (bits_of a) (bits_of b) (bits_of c)
common_bits a b c h = record {
  each = λ bit. (
    λ there. let both = and_parts (has_bit a bit) (has_bit b bit) (sym (h bit) ∙ has_bit-from_bits c bit there) in (bits-from_has_bit a bit both.0, bits-from_has_bit b bit both.1),
    λ both. bits-from_has_bit c bit (h bit ∙ and_from (has_bit a bit) (has_bit b bit) (has_bit-from_bits a bit both.0) (has_bit-from_bits b bit both.1)),
  );
}

pub difference_bits : (a b c : List Node) → IsByBits only_left a b c → IsDifference (bits_of a) (bits_of b) (bits_of c)
difference_bits a b c h = record {
  each = λ bit. (
    λ there. let parts = only_parts (has_bit a bit) (has_bit b bit) (sym (h bit) ∙ has_bit-from_bits c bit there) in
        (bits-from_has_bit a bit parts.0, λ taken. false≢true (sym parts.1 ∙ has_bit-from_bits b bit taken)),
    λ only. bits-from_has_bit c bit (h bit ∙ only_from (has_bit a bit) (has_bit b bit) (has_bit-from_bits a bit only.0) (λ taken. only.1 (bits-from_has_bit b bit taken))),
  );
}
  where
    only_parts : (p q : Bool) → only_left p q ≡ true → (p ≡ true) × (q ≡ false)
    only_parts true true e = absurd cc
    only_parts false true e = absurd cc
    only_parts true false e = (refl, refl)
    only_parts false false e = absurd cc

    only_from : (p q : Bool) → p ≡ true → (q ≡ true → ⊥) → only_left p q ≡ true
    only_from p true e not = absurd (not refl)
    only_from true false e not = refl
    only_from false false e not = absurd cc

pub meets_bits : (r : Bool) (a b : List Node) → (IsTrue r ↔ ((bit : ℕ) × IsTrue (has_bit a bit && has_bit b bit))) → IsTrue r ↔ ShareBit (bits_of a) (bits_of b)
meets_bits r a b h = (
  λ t. let one = h.0 t in
      let both = and_parts (has_bit a one.0) (has_bit b one.0) one.1 in
      record { bit = one.0; left = bits-from_has_bit a one.0 both.0; right = bits-from_has_bit b one.0 both.1 },
  λ s. h.1 (s.bit, and_from (has_bit a s.bit) (has_bit b s.bit) (has_bit-from_bits a s.bit s.left) (has_bit-from_bits b s.bit s.right)),
)

pub contains_bits_of : (r : Bool) (a b : List Node) → (IsTrue r ↔ ((bit : ℕ) → IsTrue (has_bit b bit) → IsTrue (has_bit a bit))) → IsTrue r ↔ ContainsEach (bits_of a) (bits_of b)
contains_bits_of r a b h = (
  λ t. record { each = λ bit there. bits-from_has_bit a bit (h.0 t bit (has_bit-from_bits b bit there)) },
  λ s. h.1 (λ bit there. has_bit-from_bits a bit (s.each bit (bits-from_has_bit b bit there))),
)

pub meets_end : (first second a b : List Node) → Merging ◌&&◌ first second [] a b → (a ≡ []) ⊎ (b ≡ []) → IsTrue false ↔ ShareBit (bits_of first) (bits_of second)
meets_end first second a b h none = meets_bits false first second (
  λ t. absurd (false≢true t),
  λ one. sym (Merging-none ◌&&◌ first second a b h (common_none a b none) one.0) ∙ one.1,
)
