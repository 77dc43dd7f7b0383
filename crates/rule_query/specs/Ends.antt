-- How the source and the target of a rule meet a criterion (SETools' manual page of sesearch): a type by what it and the asked one expand
-- to, a role by itself.
use Rattle.std.specs.Prelude.{ℕ, Bool, false, nat_eq, Option, Some, None, if◌then◌else◌}
use Rattle.std.specs.List.{list_any}
use Rattle.pol_fields.specs.declared.TableKind.{TableKind}
use Rattle.pol_fields.specs.declared.TableKind.TheVariants.{Roles, Types}
use Rattle.pol_symbols.specs.PolicySymbols.{value_in}
use Rattle.pol_symbols.specs.declared.Symbols.{Symbols}
use Rattle.pol_file.specs.declared.Parts.{Parts}
use Rattle.pol_expand.specs.PolicyMap.{expand}
use Rattle.named_values.specs.Named.{is_value}
use Rattle.named_values.specs.Found.{is_found}
use Rattle.rule_criteria.specs.Modes.{is_pattern, is_direct}
use Rattle.rule_criteria.specs.declared.Criterion.{Criterion}

-- the value itself is meant: its name is the one that is asked, an alias of it is, or its name has the pattern
abbrev pub is_meant : Symbols → TableKind → Criterion → ℕ → Bool
is_meant symbols table criterion value = if is_pattern criterion.mode then is_found symbols table criterion.text value else is_value (value_in symbols table criterion.text) value

-- two type values expand to lists that share a type
abbrev pub share_type : Parts → ℕ → ℕ → Bool
share_type policy a b = list_any (λ type. list_any (nat_eq type) (expand policy b)) (expand policy a)

-- a type value shares a type with the asked one
abbrev pub shares_with : Parts → Option ℕ → ℕ → Bool
shares_with policy None value = false
shares_with policy (Some asked) value = share_type policy value asked

-- a type value expands to some type that is asked
abbrev pub expands_to : Parts → Criterion → ℕ → Bool
expands_to policy criterion value =
    if is_pattern criterion.mode then list_any (is_found policy.symbols Types criterion.text) (expand policy value)
    else shares_with policy (value_in policy.symbols Types criterion.text) value

-- a type or an attribute meets a criterion
abbrev pub meets_type : Parts → Criterion → ℕ → Bool
meets_type policy criterion value = if is_direct criterion.mode then is_meant policy.symbols Types criterion value else expands_to policy criterion value

-- the end of a rule does, which is of this table
abbrev pub meets_end : Parts → Criterion → TableKind → ℕ → Bool
meets_end policy criterion Roles value = is_meant policy.symbols Roles criterion value
meets_end policy criterion table value = meets_type policy criterion value
