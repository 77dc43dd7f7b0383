-- Where a bit stands among the nodes of a set, and how many there can be.
use Rattle.std.proofs.Common.{◌≡◌, ℕ, zero, suc, ◌+◌, ◌-◌, ◌*◌, ◌%◌, ◌^◌, ◌<◌, ◌≤◌, Bool, true, false, ◌||◌, inl, inr, ◌↔◌, List, [], ◌∷◌, length, take, get_or, slice_get, Some, refl, sym, ap, subst, ◌∙◌, arith}
use Rattle.std.specs.Prelude.{IsTrue, IfSome, Contains, count_ones}
use Rattle.std.specs.List.{All}
use Rattle.std.specs.List.Sorted.{IsNonDecreasingBy}
use Rattle.std.proofs.lemmas.Bool.{cases_Bool, or_parts}
use Rattle.std.proofs.lemmas.List.{length-append}
use Rattle.std.proofs.lemmas.Nat.{ones-le}
use Rattle.std.proofs.lemmas.List.Elements.{All-nil, All-append, All-contains, All-weaker}
use Rattle.std.proofs.lemmas.Option.{get_or_from_slice_get, slice_get_within}
use Rattle.pol_bitmap.specs.declared.node.Node.{Node}
use Rattle.pol_bitmap.specs.Nodes.{IsRisingFrom, node_bits, bits_of, node_has, has_bit}
use Rattle.pol_bitmap.specs.Sets.{IsSetFrom}
use Rattle.pol_bitmap.proofs.BitLists.{node_bits_within, bits-from_has_bit, tells_bit, length-node_bits}
use Rattle.pol_bitmap.proofs.NodeBits.{bits_more}
use Rattle.pol_bitmap.proofs.Merging.{rising_above}

starts_above : (base : ℕ) (ns : List Node) (j : ℕ) (d : Node) → IsRisingFrom base ns → j < length ns → base ≤ (get_or ns j d).start
starts_above base [] j d h lt = absurd (omega arith)
starts_above base (n ∷ ns) zero d h lt = h.0
starts_above base (n ∷ ns) (suc j) d h lt = let rest = starts_above (n.start + 64) ns j d h.3 (omega arith) in omega arith

-- the starts of nodes rise
pub starts_rise : (base : ℕ) (ns : List Node) → IsRisingFrom base ns → IsNonDecreasingBy (λ n. n.start) ns
starts_rise base [] h i j d le lt = absurd (omega arith)
starts_rise base (n ∷ ns) h zero zero d le lt = omega arith
starts_rise base (n ∷ ns) h zero (suc j) d le lt = let above = starts_above (n.start + 64) ns j d h.3 (omega arith) in omega arith
starts_rise base (n ∷ ns) h (suc i) zero d le lt = absurd (omega arith)
starts_rise base (n ∷ ns) h (suc i) (suc j) d le lt = starts_rise (n.start + 64) ns h.3 i j d (omega arith) (omega arith)

-- The nodes that start below the 64 bits of a bit have lower bits.
pub bits_before : (base bit : ℕ) (ns : List Node) (i : ℕ) → IsRisingFrom base ns → ((k : ℕ) (d : Node) → k < i → k < length ns → (get_or ns k d).start < bit - bit % 64) → All (λ c. c < bit) (bits_of (take i ns))
bits_before base bit ns zero h before = All-nil (λ (c : ℕ). c < bit)
bits_before base bit [] (suc i) h before = All-nil (λ (c : ℕ). c < bit)
bits_before base bit (n ∷ ns) (suc i) h before =
    let lt : n.start < bit - bit % 64 = before 0 n (omega arith) (omega arith) in
    let whole : n.start % 64 ≡ 0 = h.1 in
    let ends : n.start + 64 ≤ bit = omega arith in
    All-append (λ (c : ℕ). c < bit) (node_bits n) (bits_of (take i ns)) (All-weaker (λ b. (n.start ≤ b) × (b < n.start + 64)) (λ c. c < bit) (λ b w. let below : b < n.start + 64 = w.1 in omega arith) (node_bits n) (node_bits_within n))
    (bits_before (n.start + 64) bit ns i h.3 (λ k d l m. before (suc k) d (omega arith) (omega arith)))

-- The nodes up to one that starts below a place start below it.
pub starts_before : (ns : List Node) (i : ℕ) (n : Node) (start : ℕ) → IsRisingFrom 0 ns → slice_get ns i ≡ Some n → n.start < start
    → (k : ℕ) (d : Node) → k < i + 1 → k < length ns → (get_or ns k d).start < start
starts_before ns i n start h e lt k d before within =
    let le = starts_rise 0 ns h k i d (omega arith) (slice_get_within ns i n e) in
    let here : (get_or ns i d).start ≡ n.start = ap (λ (m : Node). m.start) (get_or_from_slice_get ns i n d e) in
    omega arith

-- Nodes from one on that starts at a place or above it start there or above it too.
pub starts_from : (ns : List Node) (i : ℕ) (n : Node) (start : ℕ) → IsRisingFrom 0 ns → slice_get ns i ≡ Some n → start ≤ n.start
    → (k : ℕ) (d : Node) → i ≤ k → k < length ns → start ≤ (get_or ns k d).start
starts_from ns i n start h e le k d from within =
    let rise = starts_rise 0 ns h i k d from within in
    let here : (get_or ns i d).start ≡ n.start = ap (λ (m : Node). m.start) (get_or_from_slice_get ns i n d e) in
    omega arith

or_nothing : (a b : Bool) → b ≡ false → (a || b) ≡ a
or_nothing true b e = refl
or_nothing false b e = e

-- The first node that starts at or above the 64 bits of a bit ends above the bit.
pub ends_after : (bit : ℕ) (ns : List Node) (i : ℕ) → ((k : ℕ) (d : Node) → i ≤ k → k < length ns → bit - bit % 64 ≤ (get_or ns k d).start) → IfSome (slice_get ns i) (λ n. bit < n.start + 64)
ends_after bit [] i after = tt
ends_after bit (n ∷ ns) zero after = let le = after 0 n (omega arith) (omega arith) in omega arith
ends_after bit (n ∷ ns) (suc i) after = ends_after bit ns i (λ k d le lt. after (suc k) d (omega arith) (omega arith))

-- lower bits are not the bit
pub not_lower : (bit : ℕ) (ns : List Node) → All (λ c. c < bit) (bits_of ns) → has_bit ns bit ≡ false
not_lower bit ns all = elim (cases_Bool (has_bit ns bit)) [
  | inl there ↦ let lt = All-contains (λ (c : ℕ). c < bit) (bits_of ns) bit all (bits-from_has_bit ns bit there) in absurd (omega arith)
  | inr none ↦ none
]

at_place : (base bit : ℕ) (ns : List Node) (i : ℕ) (n : Node) → IsRisingFrom base ns → slice_get ns i ≡ Some n → has_bit (take i ns) bit ≡ false → bit < n.start + 64 → has_bit ns bit ≡ node_has bit n
at_place base bit [] i n h e before lt = absurd cc
at_place base bit (m ∷ ms) zero n h e before lt =
    let same : m ≡ n = cc in
    let within : bit < m.start + 64 = rw same lt in
    or_nothing (node_has bit m) (has_bit ms bit) (rising_above (m.start + 64) ms bit h.3 within) ∙ ap (node_has bit) same
at_place base bit (m ∷ ms) (suc i) n h e before lt =
    let none = or_parts (node_has bit m) (has_bit (take i ms) bit) before in
    ap (λ (b : Bool). b || has_bit ms bit) none.0 ∙ at_place (m.start + 64) bit ms i n h.3 e none.1 lt

-- Where a node ends above a bit and those before it have lower bits, the bit is that node's or none.
pub has_at_place : (bit : ℕ) (ns : List Node) (i : ℕ) (n : Node) → IsRisingFrom 0 ns → slice_get ns i ≡ Some n → All (λ c. c < bit) (bits_of (take i ns)) → IfSome (slice_get ns i) (λ n. bit < n.start + 64) → (r : Bool) → r ≡ node_has bit n → IsTrue r ↔ Contains (bits_of ns) bit
has_at_place bit ns i n h e before after r is =
    let lt : bit < n.start + 64 = subst (λ o. IfSome o (λ n. bit < n.start + 64)) e after in
    tells_bit r ns bit (is ∙ sym (at_place 0 bit ns i n h e (not_lower bit (take i ns) before) lt))

-- as many nodes as there is room for below 2 ^ 32
pub nodes_fit : (least : ℕ) (ns : List Node) → least < 2 ^ 32 + 64 → IsSetFrom least ns → 64 * length ns + least < 2 ^ 32 + 64
nodes_fit least [] lt h = omega arith
nodes_fit least (n ∷ ns) lt h =
    let start : n.start < 2 ^ 32 = h.1.0.0 in
    let rest = nodes_fit (n.start + 64) ns (omega arith) (h.0.3, h.1.1) in
    omega (arith, h.0.0)

-- one more node's bits are counted
pub count_more : (ns : List Node) (i : ℕ) (n : Node) (total : ℕ) → slice_get ns i ≡ Some n → n.map < 2 ^ 64 → (total ≡ length (bits_of (take i ns))) × (total ≤ 64 * i)
    → (total + count_ones n.map ≡ length (bits_of (take (i + 1) ns))) × (total + count_ones n.map ≤ 64 * (i + 1))
count_more ns i n total e fits h =
    let more = ap length (bits_more ns i n e) ∙ length-append (bits_of (take i ns)) (node_bits n) in
    let here = length-node_bits n fits in
    let few = ones-le 64 n.map fits in
    (omega (arith, more, here, h.0), omega (arith, few, h.1))
