-- A node without its lowest bit.
use Rattle.std.proofs.Common.{◌≡◌, ℕ, zero, suc, ◌+◌, ◌-◌, ◌*◌, ◌%◌, ◌^◌, ◌<◌, ◌≤◌, Bool, true, false, inl, inr, List, [], ◌∷◌, ◌++◌, length, drop, slice_get, Some, refl, sym, ap, subst, ◌∙◌, arith}
use Rattle.std.specs.Prelude.{◌==◌, bit_and}
use Rattle.std.specs.Int.{bit_at, bit_not, trailing_zeros, w64}
use Rattle.std.specs.List.{filter, range_with_len}
use Rattle.std.proofs.lemmas.List.{drop_all}
use Rattle.std.proofs.lemmas.Bool.{cases_order}
use Rattle.std.proofs.lemmas.Nat.Bits.{bit_at-zero, bit_at-trailing_zeros, bit_at_clear_same, bit_at_clear_other}
use Rattle.pol_bitmap.specs.declared.node.Node.{Node}
use Rattle.pol_bitmap.specs.Nodes.{IsRisingFrom, node_bits, bits_of}
use Rattle.pol_bitmap.proofs.BitLists.{map_has}

-- two tests that agree on the numbers from a on keep the same of them
filter_agree_from : (p q : ℕ → Bool) (a n : ℕ) → ((c : ℕ) → a ≤ c → c < a + n → p c ≡ q c) → filter p (range_with_len a n) ≡ filter q (range_with_len a n)
filter_agree_from p q a zero same = refl
filter_agree_from p q a (suc n) same =
    let rest = filter_agree_from p q (a + 1) n (λ c le lt. same c (omega arith) (omega arith)) in
    rw (same a (omega arith) (omega arith), rest) refl

-- the first number that passes, and those that pass after it
filter_first : (p q : ℕ → Bool) (a n found : ℕ) → a ≤ found → found < a + n → ((c : ℕ) → a ≤ c → c < found → p c ≡ false) → p found ≡ true → ((c : ℕ) → a ≤ c → c ≤ found → q c ≡ false) → ((c : ℕ) → found < c → c < a + n → p c ≡ q c)
    → filter p (range_with_len a n) ≡ found ∷ filter q (range_with_len a n)
filter_first p q a zero found le lt none here gone same = absurd (omega arith)
filter_first p q a (suc n) found le lt none here gone same = elim (cases_order a found) [
  | inl at ↦ let rest = filter_agree_from p q (a + 1) n (λ c above within. same c (omega arith) (omega arith)) in
      let passes : p a ≡ true = ap p at ∙ here in
      rw (passes, gone a (omega arith) le, rest) (ap (λ (x : ℕ). x ∷ filter q (range_with_len (a + 1) n)) at)
  | inr other ↦ elim other [
    | inl below ↦ let rest = filter_first p q (a + 1) n found (omega arith) (omega arith) (λ c from. none c (omega arith)) here (λ c from. gone c (omega arith)) (λ c above within. same c above (omega arith)) in
        rw (none a (omega arith) below, gone a (omega arith) le) rest
    | inr above ↦ absurd (omega arith)
  ]
]

-- a map without its lowest one
abbrev pub without_lowest : ℕ → ℕ
without_lowest m = bit_and m (bit_not w64 (1 * 2 ^ trailing_zeros w64 m % 2 ^ 64))

-- what is left is as it was, without that one
lowest_gone : (m i : ℕ) → 0 < m → m < 2 ^ 64 → i ≤ trailing_zeros w64 m → bit_at (without_lowest m) i ≡ 0
lowest_gone m i full fits le =
    let low = bit_at-trailing_zeros w64 m full fits in
    elim (cases_order i (trailing_zeros w64 m)) [
      | inl at ↦ ap (bit_at (without_lowest m)) at ∙ bit_at_clear_same w64 m (trailing_zeros w64 m) low.0
      | inr other ↦ elim other [
        | inl below ↦ bit_at_clear_other w64 m (trailing_zeros w64 m) low.0 i (omega (arith, low.0)) (λ e. omega arith) ∙ low.2 i below
        | inr above ↦ absurd (omega arith)
      ]
    ]

pub lowest_first : (n : Node) → 0 < n.map → n.map < 2 ^ 64 → node_bits n ≡ (n.start + trailing_zeros w64 n.map) ∷ node_bits (record { start = n.start; map = without_lowest n.map })
unfolding node_bits
lowest_first n full fits =
    let m = n.map in
    let t = trailing_zeros w64 m in
    let low = bit_at-trailing_zeros w64 m full fits in
    let at : n.start + t - n.start ≡ t = omega arith in
    filter_first (map_has n) (map_has (record { start = n.start; map = without_lowest m })) n.start 64 (n.start + t) (omega arith) (omega (arith, low.0))
    (λ c from lt. ap (λ (b : ℕ). b == 1) (low.2 (c - n.start) (omega arith)))
    (ap (λ (b : ℕ). b == 1) (ap (bit_at m) at ∙ low.1))
    (λ c from le. ap (λ (b : ℕ). b == 1) (lowest_gone m (c - n.start) full fits (omega arith)))
    (λ c lt within. ap (λ (b : ℕ). b == 1) (sym (bit_at_clear_other w64 m t low.0 (c - n.start) (omega arith) (λ e. omega arith))))

-- A node whose map is 0 has no bit.
pub no_bits : (n : Node) → n.map ≡ 0 → node_bits n ≡ []
unfolding node_bits
no_bits n none = filter_agree_from (map_has n) (λ c. false) n.start 64 (λ c from lt. ap (λ (b : ℕ). b == 1) (ap (λ (m : ℕ). bit_at m (c - n.start)) none ∙ bit_at-zero (c - n.start)))

-- the nodes from one of them on
pub bits_from : (ns : List Node) (i : ℕ) (n : Node) → slice_get ns i ≡ Some n → bits_of (drop i ns) ≡ node_bits n ++ bits_of (drop (i + 1) ns)
bits_from [] i n e = absurd cc
bits_from (m ∷ ms) zero n e = let same : m ≡ n = cc in ap (λ (x : Node). node_bits x ++ bits_of ms) same
bits_from (m ∷ ms) (suc i) n e = let next : suc i + 1 ≡ suc (i + 1) = omega arith in rw next (bits_from ms i n e)

-- nothing is left of the current node, and no node comes after it
pub nothing_left : (n : Node) (ns : List Node) (i : ℕ) → n.map ≡ 0 → length ns ≤ i → node_bits n ++ bits_of (drop i ns) ≡ []
nothing_left n ns i none past = rw (no_bits n none, drop_all i ns past) refl

-- none of the nodes that rise is empty
pub rising_full : (base : ℕ) (ns : List Node) (i : ℕ) (n : Node) → IsRisingFrom base ns → slice_get ns i ≡ Some n → 0 < n.map
rising_full base [] i n h e = absurd cc
rising_full base (m ∷ ms) zero n h e = let same : m ≡ n = cc in subst (λ (x : Node). 0 < x.map) same h.2
rising_full base (m ∷ ms) (suc i) n h e = rising_full (m.start + 64) ms i n h.3 e
