-- The values that a table has taken, as bits.
use Rattle.std.proofs.Common.{◌≡◌, ℕ, ◌/◌, ◌%◌, inl, inr, List, [], ◌∷◌, ◌++◌, length, get_or, refl, sym, ap, ◌∙◌, arith}
use Rattle.std.specs.Prelude.{◌==◌}
use Rattle.std.specs.Int.{bit_at}
use Rattle.std.proofs.lemmas.Bool.{cases_lt}
use Rattle.std.proofs.lemmas.Nat.Bits.{bit_at-zero}
use Rattle.std.proofs.lemmas.List.{get_or_append_left, get_or-append_right, get_or_past}
use Rattle.pol_cursor.specs.Inner.BitPlaces.{has_bit_of}
use Rattle.pol_symtab.specs.Inner.TakenMembers.{AreMarked}

abbrev no_bits : List ℕ
no_bits = 0 ∷ []

zero_word : (i : ℕ) → get_or no_bits i 0 ≡ 0
zero_word i = elim (cases_lt i 1) [
  | inl lt ↦ let first : i ≡ 0 = omega (arith, lt) in ap (λ (k : ℕ). get_or no_bits k 0) first
  | inr le ↦ get_or_past no_bits i 0 le
]

-- a word of no bits more
pub bits_grown : (bits : List ℕ) (place : ℕ) → has_bit_of (bits ++ 0 ∷ []) place ≡ has_bit_of bits place
unfolding has_bit_of
bits_grown bits place =
    let same : get_or (bits ++ 0 ∷ []) (place / 64) 0 ≡ get_or bits (place / 64) 0 = elim (cases_lt (place / 64) (length bits)) [
      | inl lt ↦ get_or_append_left bits no_bits 0 (place / 64) lt
      | inr le ↦ get_or-append_right bits no_bits (length bits) (place / 64) 0 refl le ∙ zero_word _ ∙ sym (get_or_past bits (place / 64) 0 le)
    ] in
    ap (λ (w : ℕ). bit_at w (place % 64) == 1) same

pub none_marked : AreMarked [] []
unfolding has_bit_of
none_marked value = ap (λ (b : ℕ). b == 1) (bit_at-zero (value % 64))
