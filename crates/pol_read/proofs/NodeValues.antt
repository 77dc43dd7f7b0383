-- The declared values that the bits of a node stand for, bit by bit.
use Rattle.std.proofs.Common.{◌≡◌, ℕ, zero, suc, ◌+◌, ◌<◌, ◌≤◌, Bool, true, false, Option, Some, None, List, [], ◌∷◌, length, slice_get, refl, ap, ◌∙◌, arith}
use Rattle.std.specs.Prelude.{◌-◌, ◌==◌, if◌then◌else◌}
use Rattle.std.specs.Int.{bit_at}
use Rattle.std.specs.List.{filter, range_with_len}
use Rattle.pol_bitmap.specs.declared.node.Node.{Node}
use Rattle.pol_bitmap.specs.Nodes.{node_bits}
use Rattle.pol_bitmap.proofs.LowestBits.{no_bits}
use Rattle.pol_symbols.specs.declared.Symbols.{Symbols}
use Rattle.pol_read.specs.StoredRules.{is_declared_type, declared_values}

-- ---- a node has at most 64 bits

filter_few : {A : Type 0} (p : A → Bool) (xs : List A) → length (filter p xs) ≤ length xs
filter_few p [] = omega arith
filter_few p (x ∷ xs) = by (p x) (filter_few p xs)
  where
    by : (b : Bool) → length (filter p xs) ≤ length xs → length (if b then x ∷ filter p xs else filter p xs) ≤ suc (length xs)
    by true le = omega (arith, le)
    by false le = omega (arith, le)

range_long : (start n : ℕ) → length (range_with_len start n) ≡ n
range_long start zero = refl
range_long start (suc n) = ap suc (range_long (start + 1) n)

pub bits_few : (node : Node) → length (node_bits node) ≤ 64
unfolding node_bits
bits_few node = let few = filter_few (λ bit. bit_at node.map (bit - node.start) == 1) (range_with_len node.start 64) in omega (arith, few, range_long node.start 64)

module _ (symbols : Symbols) where
  -- the value that a bit stands for, where it is declared
  abbrev pub value_of : ℕ → Option ℕ
  value_of bit = if is_declared_type symbols (bit + 1) then Some (bit + 1) else None

  none_by : (bit : ℕ) (bits : List ℕ) (declared : Bool) → (if declared then Some (bit + 1) else None) ≡ None → (if declared then (bit + 1) ∷ declared_values symbols bits else declared_values symbols bits) ≡ declared_values symbols bits
  none_by bit bits false e = refl
  none_by bit bits true e = absurd cc

  -- the bits of a node and those without the lowest
  module _ (node rest : Node) (bit : ℕ) (split : node_bits node ≡ bit ∷ node_bits rest) where
    pub fewer : length (node_bits node) ≡ suc (length (node_bits rest))
    fewer = ap (λ (bits : List ℕ). length bits) split

    pub values_none : value_of bit ≡ None → declared_values symbols (node_bits node) ≡ declared_values symbols (node_bits rest)
    values_none e = ap (declared_values symbols) split ∙ none_by bit (node_bits rest) (is_declared_type symbols (bit + 1)) e

  pub values_end : (node : Node) → node.map ≡ 0 → declared_values symbols (node_bits node) ≡ []
  values_end node e = ap (declared_values symbols) (no_bits node e)

  -- ---- the values counted

  -- what is counted and what is left are the whole
  pub record Counting (node left : Node) (count : ℕ) : Type 0 where
    pub same : count + length (declared_values symbols (node_bits left)) ≡ length (declared_values symbols (node_bits node))
    pub few : count + length (node_bits left) ≤ 64
    pub start : left.start ≡ node.start

  -- ---- a value sought

  -- the value of number n is that of what is left of the number in what is left of the bits
  pub record Seeking (node left : Node) (n before : ℕ) : Type 0 where
    pub same : slice_get (declared_values symbols (node_bits left)) before ≡ slice_get (declared_values symbols (node_bits node)) n
    pub there : before < length (declared_values symbols (node_bits left))
    pub start : left.start ≡ node.start
