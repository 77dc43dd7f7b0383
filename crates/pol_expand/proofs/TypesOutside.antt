-- The types of a policy, and those that are not in a set.
use Rattle.std.proofs.Common.{◌≡◌, ℕ, ◌≤◌, true, List, sym, subst, ◌↔◌, arith}
use Rattle.std.specs.Prelude.{◌==◌, ◌&&◌, not, nat_le}
use Rattle.std.specs.List.{Contains, range_with_len}
use Rattle.std.specs.List.Sorted.{IsStrictlyIncreasing}
use Rattle.std.proofs.lemmas.Bool.{and_parts, leb-true}
use Rattle.pol_bitmap.specs.declared.Node.{Node}
use Rattle.pol_bitmap.specs.Nodes.{bits_of, has_bit}
use Rattle.pol_bitmap.proofs.Elements.{kept, keeps, contains_range}
use Rattle.pol_datums.specs.declared.Flavour.TheVariants.{Plain}
use Rattle.pol_file.specs.declared.Parts.{Parts}
use Rattle.pol_expand.specs.PolicyMap.{has_flavour}
use Rattle.pol_expand.proofs.Values.{filter_rises}
use Rattle.pol_expand.specs.PlainTypes.{are_two_types, is_type_outside, is_type_value, types_outside}

-- a type has one of the values, and is no attribute
pub type_parts : (policy : Parts) (value : ℕ) → is_type_value policy value ≡ true → (1 ≤ value) × (value ≤ policy.symbols.types.nprim) × (has_flavour policy.symbols Plain value ≡ true)
type_parts policy value e =
    let outer = and_parts (nat_le 1 value && nat_le value policy.symbols.types.nprim) (has_flavour policy.symbols Plain value) e in
    let inner = and_parts (nat_le 1 value) (nat_le value policy.symbols.types.nprim) outer.0 in
    (leb-true 1 value inner.0, leb-true value policy.symbols.types.nprim inner.1, outer.1)

pub type_within : (policy : Parts) (value : ℕ) → is_type_value policy value ≡ true → (1 ≤ value) × (value ≤ policy.symbols.types.nprim)
type_within policy value e = let parts = type_parts policy value e in (parts.0, parts.1)

pub two_within : (policy : Parts) (a b : ℕ) → are_two_types policy a b ≡ true → (1 ≤ a) × (a ≤ policy.symbols.types.nprim) × (1 ≤ b) × (b ≤ policy.symbols.types.nprim)
two_within policy a b e =
    let both = and_parts (is_type_value policy a) (is_type_value policy b) (and_parts (is_type_value policy a && is_type_value policy b) (not (a == b)) e).0 in
    let one = type_within policy a both.0 in
    let other = type_within policy b both.1 in
    (one.0, one.1, other.0, other.1)

-- a type that is not in a set is among them
pub in_outside : (policy : Parts) (excluded outside : List Node) (type : ℕ) → bits_of outside ≡ types_outside policy excluded → Contains (bits_of outside) type ↔ (is_type_outside policy excluded type ≡ true)
unfolding types_outside
in_outside policy excluded outside type is =
    let range = range_with_len 1 policy.symbols.types.nprim in (
      λ there. (kept (is_type_outside policy excluded) range type (subst (λ (xs : List ℕ). Contains xs type) is there)).1,
      λ e.
          let within = type_within policy type (and_parts (is_type_value policy type) (not (has_bit excluded type)) e).0 in
          subst (λ (xs : List ℕ). Contains xs type) (sym is) (keeps (is_type_outside policy excluded) range type (contains_range 1 policy.symbols.types.nprim type within.0 (omega (arith, within.1))) e),
    )

pub outside_rises : (policy : Parts) (excluded : List Node) → IsStrictlyIncreasing (types_outside policy excluded)
unfolding types_outside
outside_rises policy excluded = filter_rises (is_type_outside policy excluded) 1 policy.symbols.types.nprim
