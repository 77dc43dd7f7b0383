-- The types that the names of a list stand for.
use Rattle.std.specs.Prelude.{ℕ, Bool, false, List, Option, Some, None}
use Rattle.std.specs.List.{filter, list_any, range_with_len}
use Rattle.pol_fields.specs.declared.TableKind.TheVariants.{Types}
use Rattle.pol_symbols.specs.PolicySymbols.{value_in}
use Rattle.pol_file.specs.declared.Parts.{Parts}
use Rattle.pol_expand.specs.JoinedTypes.{holds_type}

abbrev pub value_holds : Parts → Option ℕ → ℕ → Bool
value_holds policy None type = false
value_holds policy (Some value) type = holds_type policy value type

-- one of the names expands to the type; a name that the policy lacks expands to none
abbrev pub is_member : Parts → List (List ℕ) → ℕ → Bool
is_member policy names type = list_any (λ name. value_holds policy (value_in policy.symbols Types name) type) names

-- all that they expand to, rising
unfoldable pub members : Parts → List (List ℕ) → List ℕ
members policy names = filter (is_member policy names) (range_with_len 1 policy.symbols.types.nprim)
