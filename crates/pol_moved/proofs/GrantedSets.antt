-- The set of few bits that rise is read as a bitmap.
use Rattle.std.proofs.Common.{inl, inr, ◌≡◌, ℕ, ◌+◌, ◌^◌, ◌<◌, ◌≤◌, false, Some, None, List, [], ◌∷◌, length, refl, arith}
use Rattle.std.specs.Prelude.{nat_le}
use Rattle.std.specs.List.{list_any, AllByRecursion}
use Rattle.std.proofs.lemmas.Bool.{cases_eq, eq-eqb, ne_eqb, lt-leb}
use Rattle.pol_bitmap.specs.declared.Node.{Node}
use Rattle.pol_bitmap.specs.Nodes.{IsRisingFrom, node_bits, bits_of}
use Rattle.pol_bitmap.specs.Bitmap.{bitmap_at, high_of, spell_bitmap, BitmapFits}
use Rattle.pol_bitmap.proofs.BitLists.{RisesFrom}
use Rattle.set_nodes.specs.SetNodes.{node_of, with_node, set_of}
use Rattle.pol_moved.proofs.Granted.{GrantsOf}
use Rattle.pol_moved.proofs.GrantedBitmaps.{AreWithin, grants-bitmap, grants-set}
use Rattle.pol_moved.proofs.ListFacts.{all-so, all-from_flat_map}
use Rattle.set_nodes.proofs.SetBits.{set_of-set, set_of-bits}

-- bits that rise, below a limit that is no more than half of what a number of 32 bits has
pub record AreBits (limit : ℕ) (bits : List ℕ) : Type 0 where
  pub small : limit ≤ 2 ^ 31
  pub rise : RisesFrom 0 bits
  pub below : AllByRecursion (λ b. b < limit) bits

numbers-fit : {limit : ℕ} {bits : List ℕ} → AreBits limit bits → AllByRecursion (λ b. b < 2 ^ 32) bits
numbers-fit {limit} {bits} are = all-so bits (λ b less. omega (arith, less, are.small)) are.below

-- ---- how many nodes a set has, and where they start

with_node-length : (n : Node) (ns : List Node) → length (with_node n ns) ≤ 1 + length ns
with_node-length n [] = omega arith
with_node-length n (m ∷ ms) = elim (cases_eq n.start m.start) [
  | inl same ↦ rw (eq-eqb n.start m.start same) (omega arith)
  | inr other ↦ rw (ne_eqb n.start m.start other) (omega arith)
]

-- no more than there are bits
pub length-set_of : (bits : List ℕ) → length (set_of bits) ≤ length bits
unfolding set_of
length-set_of [] = omega arith
length-set_of (bit ∷ bits) = omega (arith, with_node-length (node_of bit) (set_of bits), length-set_of bits)

rises-length : (limit least : ℕ) (bits : List ℕ) → least ≤ limit → RisesFrom least bits → AllByRecursion (λ b. b < limit) bits → least + length bits ≤ limit
rises-length limit least [] low rise below = omega (arith, low)
rises-length limit least (bit ∷ bits) low rise below = omega (arith, rise.0, rises-length limit (bit + 1) bits (omega (arith, below.0)) rise.1 below.1)

with_node-starts : (limit : ℕ) (n : Node) (ns : List Node) → n.start < limit → AllByRecursion (λ m. m.start < limit) ns → AllByRecursion (λ m. m.start < limit) (with_node n ns)
with_node-starts limit n [] first others = (first, tt)
with_node-starts limit n (m ∷ ms) first others = elim (cases_eq n.start m.start) [
  | inl same ↦ rw (eq-eqb n.start m.start same) (first, others.1)
  | inr other ↦ rw (ne_eqb n.start m.start other) (first, others)
]

starts-below : (limit : ℕ) (bits : List ℕ) → AllByRecursion (λ b. b < limit) bits → AllByRecursion (λ n. n.start < limit) (set_of bits)
unfolding set_of
starts-below limit [] below = tt
starts-below limit (bit ∷ bits) below = let first : bit < limit = below.0 in with_node-starts limit (node_of bit) (set_of bits) (omega (arith, first)) (starts-below limit bits below.1)

high-below : (limit : ℕ) (ns : List Node) → AllByRecursion (λ n. n.start < limit) ns → high_of ns ≤ limit + 63
high-below limit [] below = omega arith
high-below limit (n ∷ []) below = omega (arith, below.0)
high-below limit (n ∷ m ∷ ms) below = high-below limit (m ∷ ms) below.1

-- ---- it fits, and is read

pub set-fits : {limit : ℕ} {bits : List ℕ} → AreBits limit bits → BitmapFits (set_of bits)
set-fits {limit} {bits} are = record {
  count = omega (arith, are.small, length-set_of bits, rises-length limit 0 bits (omega arith) are.rise are.below);
  nodes = (set_of-set 0 bits are.rise (numbers-fit are)).1;
}

set-high : {limit : ℕ} {bits : List ℕ} → AreBits limit bits → high_of (set_of bits) < 2 ^ 32
set-high {limit} {bits} are = omega (arith, are.small, high-below limit (set_of bits) (starts-below limit bits are.below))

set-rises : {limit : ℕ} {bits : List ℕ} → AreBits limit bits → IsRisingFrom 0 (set_of bits)
set-rises {limit} {bits} are = (set_of-set 0 bits are.rise (numbers-fit are)).0

pub set-granted : {limit : ℕ} {bits : List ℕ} → AreBits limit bits → GrantsOf (bitmap_at None) (set_of bits) (spell_bitmap (set_of bits))
set-granted {limit} {bits} are = grants-set (set_of bits) (set-high are) (set-fits are) (set-rises are)

none-out : (limit : ℕ) (bits : List ℕ) → AllByRecursion (λ b. b < limit) bits → list_any (nat_le limit) bits ≡ false
none-out limit [] below = refl
none-out limit (bit ∷ bits) below = rw (lt-leb limit bit below.0) (none-out limit bits below.1)

set-within : {limit : ℕ} {bits : List ℕ} → AreBits limit bits → AreWithin (Some limit) (set_of bits)
set-within {limit} {bits} are =
    let there : AllByRecursion (λ b. b < limit) (bits_of (set_of bits)) = rw (set_of-bits 0 bits are.rise (numbers-fit are)) are.below in
    all-so (set_of bits) (λ n below. none-out limit (node_bits n) below) (all-from_flat_map (λ b. b < limit) node_bits (set_of bits) there)

-- where bits have that limit
pub set-granted-below : {limit : ℕ} {bits : List ℕ} → AreBits limit bits → GrantsOf (bitmap_at (Some limit)) (set_of bits) (spell_bitmap (set_of bits))
set-granted-below {limit} {bits} are = grants-bitmap (Some limit) (set_of bits) (set-high are) (set-fits are) (set-rises are) (set-within are)
