-- The bits of a node by its map shifted to the right.
use Rattle.std.proofs.Common.{◌≡◌, ℕ, ◌+◌, ◌-◌, ◌/◌, ◌%◌, ◌^◌, ◌<◌, ◌≤◌, true, false, ◌⊎◌, inl, inr, Some, None, refl, sym, ap, ◌∙◌, arith}
use Rattle.std.specs.Prelude.{nat_le}
use Rattle.std.specs.Int.{bit_at, trailing_zeros, w64}
use Rattle.std.specs.List.{All}
use Rattle.std.proofs.Math.Nat.{div-div-eq-div-mul, div-le_self}
use Rattle.std.proofs.lemmas.Nat.{pow-add}
use Rattle.std.proofs.lemmas.Nat.Bits.{bit_at-zero, bit_at_above, bit_at-trailing_zeros}
use Rattle.std.proofs.lemmas.Bool.{and_from, and_parts, lt-ltb, le-leb, eq-eqb, eqb-true, leb-true, ltb-true, lt-leb, cases_lt, ne_eqb}
use Rattle.std.proofs.lemmas.List.Elements.{All-weaker}
use Rattle.std.proofs.lemmas.List.Folds.{list_any_none}
use Rattle.pol_bitmap.specs.declared.node.Node.{Node}
use Rattle.pol_bitmap.specs.Nodes.{node_has, node_bits, IsLeastFrom}
use Rattle.pol_bitmap.specs.Bitmap.{map_test}
use Rattle.pol_bitmap.proofs.BitLists.{bits-from_node_has, all_node_bits}

bit_at-shifted : (m k i : ℕ) → bit_at (m / 2 ^ k) i ≡ bit_at m (k + i)
bit_at-shifted m k i = ap (λ (x : ℕ). x % 2) (div-div-eq-div-mul m (2 ^ k) (2 ^ i) ∙ ap (λ (x : ℕ). m / x) (sym (pow-add 2 k i)))

-- what it means that a node has a bit
pub record HasAt (n : Node) (c : ℕ) : Type 0 where
  pub above : n.start ≤ c
  pub below : c < n.start + 64
  pub set : bit_at n.map (c - n.start) ≡ 1

pub has_at : (n : Node) (c : ℕ) → node_has c n ≡ true → HasAt n c
has_at n c e =
    let p = and_parts _ _ e in
    let q = and_parts _ _ p.0 in
    record { above = leb-true n.start c q.0; below = ltb-true c (n.start + 64) q.1; set = eqb-true _ _ p.1 }

node_has-from_at : (n : Node) (c : ℕ) → HasAt n c → node_has c n ≡ true
node_has-from_at n c h = and_from _ _ (and_from _ _ (le-leb n.start c h.above) (lt-ltb c (n.start + 64) h.below)) (eq-eqb _ _ h.set)

-- no bit of a node is at or above a bit that lies behind its 64
pub none_behind : (n : Node) (bit : ℕ) → 64 ≤ bit - n.start → All (λ c. c < bit) (node_bits n)
none_behind n bit far = all_node_bits (λ c. c < bit) n (λ c e. let h = has_at n c e in omega (arith, h.below))

-- a bit at or above the place to which the map is shifted is still there
still_set : (n : Node) (c k : ℕ) → HasAt n c → k ≤ c - n.start → bit_at (n.map / 2 ^ k) (c - n.start - k) ≡ 1
still_set n c k h le =
    let at : k + (c - n.start - k) ≡ c - n.start = omega arith in
    bit_at-shifted n.map k (c - n.start - k) ∙ ap (bit_at n.map) at ∙ h.set

-- nor where nothing is left of the map from that bit on
pub none_shifted : (n : Node) (bit : ℕ) → n.map / 2 ^ (bit - n.start) ≡ 0 → All (λ c. c < bit) (node_bits n)
none_shifted n bit none = all_node_bits (λ c. c < bit) n (λ c e. under n bit none c (has_at n c e) (cases_lt c bit))
  where
    under : (n : Node) (bit : ℕ) → n.map / 2 ^ (bit - n.start) ≡ 0 → (c : ℕ) → HasAt n c → (c < bit) ⊎ (bit ≤ c) → c < bit
    under n bit none c h (inl lt) = lt
    under n bit none c h (inr le) =
        let i = c - n.start - (bit - n.start) in
        let clear : bit_at (n.map / 2 ^ (bit - n.start)) i ≡ 0 = ap (λ (x : ℕ). bit_at x i) none ∙ bit_at-zero i in
        let one : bit_at (n.map / 2 ^ (bit - n.start)) i ≡ 1 = still_set n c (bit - n.start) h (omega arith) in
        absurd (let no : 0 ≡ 1 = sym clear ∙ one in cc)

-- the lowest one of what is left of a map
pub record LowestOne (m k : ℕ) : Type 0 where
  pub set : bit_at m (k + trailing_zeros w64 (m / 2 ^ k)) ≡ 1
  pub within : k + trailing_zeros w64 (m / 2 ^ k) < 64
  pub clear : (i : ℕ) → i < trailing_zeros w64 (m / 2 ^ k) → bit_at (m / 2 ^ k) i ≡ 0

pub lowest_set : (m k : ℕ) → m < 2 ^ 64 → 0 < m / 2 ^ k → LowestOne m k
lowest_set m k fits left =
    let small : m / 2 ^ k < 2 ^ 64 = omega (arith, div-le_self m (2 ^ k)) in
    let low = bit_at-trailing_zeros w64 (m / 2 ^ k) left small in
    let set = sym (bit_at-shifted m k (trailing_zeros w64 (m / 2 ^ k))) ∙ low.1 in
    record { set = set; within = set_within m (k + trailing_zeros w64 (m / 2 ^ k)) fits set; clear = low.2 }
  where
    set_within : (m i : ℕ) → m < 2 ^ 64 → bit_at m i ≡ 1 → i < 64
    set_within m i fits one = elim (cases_lt i 64) [
      | inl lt ↦ lt
      | inr le ↦ absurd (let no : 0 ≡ 1 = sym (bit_at_above m 64 i fits le) ∙ one in cc)
    ]

-- Where something is left, the least bit at or above is that of the lowest one.
pub least_shifted : (n : Node) (bit : ℕ) → n.map < 2 ^ 64 → 0 < n.map / 2 ^ (bit - n.start) → IsLeastFrom (node_bits n) bit (n.start + (bit - n.start) + trailing_zeros w64 (n.map / 2 ^ (bit - n.start)))
least_shifted n bit fits left =
    let k = bit - n.start in
    let x = n.map / 2 ^ k in
    let t = trailing_zeros w64 x in
    let low = lowest_set n.map k fits left in
    let within : k + t < 64 = low.within in
    let at : n.start + k + t - n.start ≡ k + t = omega arith in
    let here : HasAt n (n.start + k + t) = record { above = omega arith; below = omega arith; set = ap (bit_at n.map) at ∙ low.set } in
    record {
      above = omega arith;
      there = bits-from_node_has n (n.start + k + t) (node_has-from_at n (n.start + k + t) here);
      least = all_node_bits (λ c. bit ≤ c → n.start + k + t ≤ c) n (λ c e le. lowest n k t c (has_at n c e) (omega (arith, (has_at n c e).above)) low.clear (cases_lt c (n.start + k + t)));
    }
  where
    lowest : (n : Node) (k t c : ℕ) → HasAt n c → k ≤ c - n.start → ((i : ℕ) → i < t → bit_at (n.map / 2 ^ k) i ≡ 0) → (c < n.start + k + t) ⊎ (n.start + k + t ≤ c) → n.start + k + t ≤ c
    lowest n k t c h le none (inr above) = above
    lowest n k t c h le none (inl below) =
        let lt : c - n.start - k < t = omega (arith, h.above) in
        absurd (let no : 0 ≡ 1 = sym (none (c - n.start - k) lt) ∙ still_set n c k h le in cc)

-- bits below the limit are not out
pub within_limit : (limit start map : ℕ) → (map ≡ 0 → ⊥) → All (λ c. c < limit) (node_bits (record { start = start; map = map })) → None ≡ map_test (Some limit) start map
within_limit limit start map full below =
    let bits = node_bits (record { start = start; map = map }) in
    let none = list_any_none (nat_le limit) bits (All-weaker (λ (c : ℕ). c < limit) (λ c. nat_le limit c ≡ false) (λ c lt. lt-leb limit c lt) bits below) in
    rw (ne_eqb map 0 full, none) refl
