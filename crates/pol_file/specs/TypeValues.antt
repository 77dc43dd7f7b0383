-- The values of types: the numbers from 1 on that the table of types may declare.
use Rattle.std.specs.Prelude.{◌≡◌, ℕ, ◌≤◌, length}
use Rattle.std.specs.List.{All}
use Rattle.pol_symbols.specs.declared.symbols.Symbols.{Symbols}
use Rattle.pol_file.specs.declared.parts.Parts.{Parts}

-- 1 up to the number of type values
abbrev pub IsTypeValue : Symbols → ℕ → Type 0
IsTypeValue symbols value = (1 ≤ value) × (value ≤ symbols.types.nprim)

-- What each policy that was read promises of them: there are few (this project's profile), each record of the table of types has one
-- of them, be it a type, an attribute or an alias (libsepol's type_index), and each of them has a row in the type map.
pub record HasTypeValues (policy : Parts) : Type 0 where
  pub few : policy.symbols.types.nprim ≤ 65535
  pub within : All (λ t. IsTypeValue policy.symbols t.value.value) policy.symbols.types.records
  pub rows : length policy.labels.type_rows ≡ policy.symbols.types.nprim
