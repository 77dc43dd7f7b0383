-- The weights of the permissions of classes, made once. It serves the code alone.
use Rattle.std.specs.Prelude.{◌≡◌, ◌≤◌, ◌<◌, ℕ, ◌-◌, ◌^◌, Bool, ◌==◌, not, nat_le, List, [], length, map, slice_get, slice_index_or, Some, bit_and}
use Rattle.std.specs.List.{filter}
use Rattle.std.specs.Int.{bit_at}
use Rattle.pol_cursor.specs.References.{Placed}
use Rattle.pol_commons.specs.declared.PermissionRec.{PermissionRec}
use Rattle.pol_classes.specs.declared.ClassRec.{ClassRec}
use Rattle.pol_symbols.specs.declared.Symbols.{Symbols}
use Rattle.pol_symbols.specs.PolicySymbols.{permissions_of}
use Rattle.counted_rules.specs.CountedRules.{Counted}
use Rattle.perm_map.specs.PermissionMap.{Entry, Weights}
use Rattle.flow_search.specs.declared.class_weights.PermissionWeight.{PermissionWeight}
use Rattle.flow_search.specs.declared.reach_bits.ReachBits.{ReachBits}
use Rattle.flow_search.specs.FlowWeights.{greatest, inwards, outwards, permission_weight}

-- a permission's place among the bits of a mask, and its two weights
abbrev pub weighed : Weights → List ℕ → PermissionRec → PermissionWeight
weighed weights class permission =
    record { place = permission.value - 1; out = permission_weight outwards weights class permission; into = permission_weight inwards weights class permission }

-- the weights of all permissions of a class
unfoldable pub class_weights : Weights → Symbols → ClassRec → List PermissionWeight
class_weights weights symbols class = map (weighed weights class.name) (permissions_of symbols class)

abbrev pub is_in : ℕ → PermissionWeight → Bool
is_in mask permission = bit_at mask permission.place == 1

-- the greatest of those that a mask has, each way
unfoldable pub greatest_out : ℕ → List PermissionWeight → ℕ
greatest_out mask permissions = greatest (map (λ p. p.out) (filter (is_in mask) permissions))

unfoldable pub greatest_into : ℕ → List PermissionWeight → ℕ
greatest_into mask permissions = greatest (map (λ p. p.into) (filter (is_in mask) permissions))

-- one list for each class, in the order of the file
pub record AreWeights (weights : Weights) (symbols : Symbols) (lists : List (List PermissionWeight)) : Type 0 where
  pub count : length lists ≡ length symbols.classes.records
  pub each : (i : ℕ) (class : Placed ClassRec) → slice_get symbols.classes.records i ≡ Some class → slice_index_or lists i [] ≡ class_weights weights symbols class.value

-- ---- permissions that reach a weight, as bits

-- a mask has one of the permissions of some bits
abbrev pub shares_bit : ℕ → ℕ → Bool
shares_bit mask bits = not (bit_and bits mask == 0)

-- A mask has one of them where the greatest weight of what it has reaches the least one, each way.
pub record AreReachBits (least : ℕ) (permissions : List PermissionWeight) (bits : ReachBits) : Type 0 where
  pub out : (mask : ℕ) → mask < 2 ^ 32 → shares_bit mask bits.out ≡ nat_le least (greatest_out mask permissions)
  pub into : (mask : ℕ) → mask < 2 ^ 32 → shares_bit mask bits.into ≡ nat_le least (greatest_into mask permissions)

-- the bits of each list of permissions
pub record AreBitsOf (least : ℕ) (lists : List (List PermissionWeight)) (classes : List ReachBits) : Type 0 where
  pub count : length classes ≡ length lists
  pub each : (i : ℕ) (bits : ReachBits) → slice_get classes i ≡ Some bits → AreReachBits least (slice_index_or lists i []) bits

-- the bits of each class, in the order of the file
pub record HaveReachBits (weights : Weights) (symbols : Symbols) (least : ℕ) (classes : List ReachBits) : Type 0 where
  pub some : 1 ≤ least
  pub count : length classes ≡ length symbols.classes.records
  pub each : (i : ℕ) (class : Placed ClassRec) (bits : ReachBits) → slice_get symbols.classes.records i ≡ Some class → slice_get classes i ≡ Some bits → AreReachBits least (class_weights weights symbols class.value) bits

-- What tells which rules reach a weight.
pub record Reached : Type 0 where
  pub rules : Counted
  pub entries : List Entry
  pub least : ℕ

-- What weighs rules: those of a policy that count, and the entries of a permission map.
pub record Weighing : Type 0 where
  pub rules : Counted
  pub entries : List Entry
