-- The types and attributes that rules have as their ends, and those of them that hold a type. It serves the code alone.
use Rattle.std.specs.Prelude.{◌≡◌, ℕ, ◌+◌, ◌==◌, nat_lt, ◌&&◌, Bool, true, List, length, not, is_some}
use Rattle.std.specs.List.{list_any}
use Rattle.pol_datums.specs.declared.Flavour.TheVariants.{Attribute}
use Rattle.pol_symbols.specs.PolicySymbols.{flavour_in}
use Rattle.pol_file.specs.declared.Parts.{Parts}
use Rattle.pol_file.specs.TypeValues.{IsTypeValue}
use Rattle.pol_expand.specs.PolicyMap.{has_flavour}
use Rattle.pol_expand.specs.JoinedTypes.{holds_type}
use Rattle.value_groups.specs.Inner.Grouping.{group_of}

-- a value is that of a type or of an attribute
pub record IsEnd (policy : Parts) (value : ℕ) : Type 0 where
  pub within : IsTypeValue policy.symbols value
  pub declared : is_some (flavour_in policy.symbols value) ≡ true

-- a value has places in a list of ends
abbrev pub has_places : List (List ℕ) → ℕ → Bool
has_places groups value = not (length (group_of groups value) == 0)

-- a bit of a row stands for a value, which is that of an attribute that rules have
abbrev pub is_attribute_bit : Parts → (ℕ → Bool) → ℕ → ℕ → Bool
is_attribute_bit policy has value bit = nat_lt bit policy.symbols.types.nprim && has (bit + 1) && has_flavour policy.symbols Attribute (bit + 1) && (bit + 1 == value)

-- a value expands to one of some types
abbrev pub holds_any : Parts → List ℕ → ℕ → Bool
holds_any policy types value = list_any (holds_type policy value) types
