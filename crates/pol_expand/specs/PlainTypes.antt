-- The values of a policy's types, and of no attributes.
use Rattle.std.specs.Prelude.{ℕ, Bool, ◌==◌, ◌&&◌, nat_le, not, List}
use Rattle.std.specs.List.{filter, range_with_len}
use Rattle.pol_bitmap.specs.declared.Node.{Node}
use Rattle.pol_bitmap.specs.Nodes.{has_bit}
use Rattle.pol_datums.specs.declared.Flavour.TheVariants.{Plain}
use Rattle.pol_file.specs.declared.Parts.{Parts}
use Rattle.pol_expand.specs.PolicyMap.{has_flavour}

-- a value is that of a type, and of no attribute
abbrev pub is_type_value : Parts → ℕ → Bool
is_type_value policy value = nat_le 1 value && nat_le value policy.symbols.types.nprim && has_flavour policy.symbols Plain value

-- two values of types, and of no attributes, that are not the same
abbrev pub are_two_types : Parts → ℕ → ℕ → Bool
are_two_types policy a b = is_type_value policy a && is_type_value policy b && not (a == b)

-- a type that is not in a set
abbrev pub is_type_outside : Parts → List Node → ℕ → Bool
is_type_outside policy excluded type = is_type_value policy type && not (has_bit excluded type)

-- all of them, rising
unfoldable pub types_outside : Parts → List Node → List ℕ
types_outside policy excluded = filter (is_type_outside policy excluded) (range_with_len 1 policy.symbols.types.nprim)
