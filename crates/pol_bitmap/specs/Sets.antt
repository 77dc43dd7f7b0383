-- Sets of bits, and how two of them are gone through together.
use Rattle.std.specs.Prelude.{◌≡◌, ◌↔◌, ◌⊎◌, ℕ, ◌+◌, Bool, ◌||◌, ◌==◌, List, Contains}
use Rattle.std.specs.Cmp.Lexicographic.{pointwise}
use Rattle.std.specs.Ordering.{on, eq_of_both}
use Rattle.std.specs.List.{AllByRecursion}
use Rattle.pol_bitmap.specs.declared.node.Node.{Node}
use Rattle.pol_bitmap.specs.Nodes.{node_has, has_bit, IsRisingFrom}
use Rattle.pol_bitmap.specs.Bitmap.{NodeFits}

-- the nodes of a set whose bits are at or above a place: in their one form, each number within its field
abbrev pub IsSetFrom : ℕ → List Node → Type 0
IsSetFrom least ns = IsRisingFrom least ns × AllByRecursion NodeFits ns

abbrev pub IsSet : List Node → Type 0
IsSet ns = IsSetFrom 0 ns

-- sets are equal where their nodes are
abbrev pub nodes_eq : List Node → List Node → Bool
nodes_eq = pointwise (eq_of_both (on (λ n. n.start) ◌==◌) (on (λ n. n.map) ◌==◌))

-- ---- by the lists of bits

-- the bits of either
pub record IsUnion (a b c : List ℕ) : Type 0 where
  pub each : (bit : ℕ) → Contains c bit ↔ (Contains a bit ⊎ Contains b bit)

-- the bits of both
pub record IsCommon (a b c : List ℕ) : Type 0 where
  pub each : (bit : ℕ) → Contains c bit ↔ (Contains a bit × Contains b bit)

-- the bits of the first that the second has not
pub record IsDifference (a b c : List ℕ) : Type 0 where
  pub each : (bit : ℕ) → Contains c bit ↔ (Contains a bit × ¬ Contains b bit)

-- some bit of both
pub record ShareBit (a b : List ℕ) : Type 0 where
  pub bit : ℕ
  pub left : Contains a bit
  pub right : Contains b bit

-- each bit of the second is one of the first
pub record ContainsEach (a b : List ℕ) : Type 0 where
  pub each : (bit : ℕ) → Contains b bit → Contains a bit

-- the same bits
pub record HasSameBits (a b : List ℕ) : Type 0 where
  pub each : (bit : ℕ) → Contains a bit ↔ Contains b bit

-- ---- two sets gone through together

-- A set is its bits of the 64 from a start on, and the rest above them.
pub record IsCut (ns : List Node) (start map : ℕ) (rest : List Node) : Type 0 where
  pub bits : (bit : ℕ) → has_bit ns bit ≡ (node_has bit (record { start = start; map = map }) || has_bit rest bit)
  pub above : IsSetFrom (start + 64) rest
