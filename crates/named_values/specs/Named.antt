-- The values that names are looked up to in a symbol table, aliases among them.
use Rattle.std.specs.Prelude.{ℕ, Bool, false, nat_eq, Option, Some, None, List}
use Rattle.std.specs.List.{list_any}
use Rattle.pol_fields.specs.declared.TableKind.{TableKind}
use Rattle.pol_symbols.specs.PolicySymbols.{value_in}
use Rattle.pol_symbols.specs.declared.Symbols.{Symbols}

-- a look-up found this value
abbrev pub is_value : Option ℕ → ℕ → Bool
is_value None value = false
is_value (Some found) value = nat_eq value found

-- one of the names is looked up to the value
abbrev pub is_named : Symbols → TableKind → List (List ℕ) → ℕ → Bool
is_named symbols table names value = list_any (λ name. is_value (value_in symbols table name) value) names
