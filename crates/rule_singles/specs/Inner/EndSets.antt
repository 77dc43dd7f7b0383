-- What the ends of rules stand for, as sets of a pool by their numbers. It serves the code alone.
use Rattle.std.specs.Prelude.{◌≡◌, ℕ, ◌<◌, ◌≤◌, Bool, true, Option, Some, None, List, [], ◌∷◌, ◌++◌, length, slice_index_or, if◌then◌else◌}
use Rattle.std.specs.List.{filter}
use Rattle.pol_fields.specs.declared.TableKind.{TableKind}
use Rattle.pol_fields.specs.declared.TableKind.TheVariants.{Types}
use Rattle.pol_bitmap.specs.declared.Node.{Node}
use Rattle.pol_bitmap.specs.Nodes.{has_bit}
use Rattle.pol_file.specs.declared.Parts.{Parts}
use Rattle.pol_expand.specs.PolicyMap.{expand}
use Rattle.set_products.specs.declared.Entry.{Entry}
use Rattle.set_products.specs.Members.{HasNumbers, bits_at, product_of}
use Rattle.pol_read.specs.DeclaredRules.{IsDeclaredIn}
use Rattle.rule_criteria.specs.Modes.{is_direct}
use Rattle.rule_criteria.specs.declared.Criteria.{Criteria}
use Rattle.rule_criteria.specs.declared.Criterion.{Criterion}
use Rattle.rule_singles.specs.FoundSingles.{ends_of_rule, is_listed_end}

-- a type is left by a set, and by none each is
abbrev pub leaves : Option (List Node) → ℕ → Bool
leaves None type = true
leaves (Some left) type = has_bit left type

-- what a criterion leaves, by the set of those that meet it
abbrev pub types_left : Option Criterion → Option (List Node) → Option (List Node)
types_left None met = None
types_left (Some criterion) met = if is_direct criterion.mode then None else met

-- of the types that the policy declares those are left that a criterion lists
pub record AreAsked (policy : Parts) (criterion : Option Criterion) (left : Option (List Node)) : Type 0 where
  pub each : (type : ℕ) → IsDeclaredIn policy.symbols Types type → leaves left type ≡ is_listed_end policy criterion type

-- what an end of a table stands for, by what is left
abbrev pub ends_left : Parts → Option (List Node) → TableKind → ℕ → List ℕ
ends_left policy left Types value = filter (leaves left) (expand policy value)
ends_left policy left other value = value ∷ []

-- a pool gained sets behind those that it had, so many at most
pub record Grows (most : ℕ) (old new : List (List Node)) : Type 0 where
  pub more : List (List Node)
  pub is : new ≡ old ++ more
  pub few : length more ≤ most

-- a number is that of a set with these bits
pub record IsNumberIn (sets : List (List Node)) (bits : List ℕ) (n : ℕ) : Type 0 where
  pub there : n < length sets
  pub right : bits_at sets n ≡ bits

-- the numbers that are known, by value, are those of what the values stand for
pub record AreSetsOf (policy : Parts) (left : Option (List Node)) (sets : List (List Node)) (numbers : List (Option ℕ)) : Type 0 where
  pub each : (value n : ℕ) → slice_index_or numbers value None ≡ Some n → IsNumberIn sets (filter (leaves left) (expand policy value)) n

-- an entry is that of the rule of a number
pub record IsEntryOf (policy : Parts) (criteria : Criteria) (sets : List (List Node)) (number : ℕ) (entry : Entry) : Type 0 where
  pub numbers : HasNumbers sets entry
  pub right : product_of sets entry ≡ ends_of_rule policy criteria number
