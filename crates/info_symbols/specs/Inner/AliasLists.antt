-- The lists of the aliases of a table, by value from 0 on, and how they are gathered record by record.
use Rattle.std.specs.Prelude.{◌≡◌, ℕ, ◌++◌, ◌∷◌, [], Bool, true, List, nat_eq, slice_index_or, if◌then◌else◌}
use Rattle.pol_fields.specs.declared.TableKind.{TableKind}
use Rattle.pol_cursor.specs.References.{Placed}
use Rattle.pol_symbols.specs.declared.symbols.Symbols.{Symbols}
use Rattle.info_symbols.specs.Aliases.{aliases_among, aliases_in}

-- such lists say the same: a value beyond the end has no alias
abbrev pub SameLists : List (List (List ℕ)) → List (List (List ℕ)) → Type 0
SameLists old new = (v : ℕ) → slice_index_or new v [] ≡ slice_index_or old v []

-- what the list of a value v gains by an alias of a value
abbrev pub gain : ℕ → ℕ → List ℕ → List (List ℕ)
gain v value name = if nat_eq value v then name ∷ [] else []

-- the lists gain an alias of a value
pub record Gains (value : ℕ) (name : List ℕ) (old new : List (List (List ℕ))) : Type 0 where
  pub each : (v : ℕ) → slice_index_or new v [] ≡ slice_index_or old v [] ++ gain v value name

-- they gain a record, where it is an alias
pub record GainsRecord {A : Type 0} (name_of : A → List ℕ) (is_primary : A → Bool) (value_of : A → ℕ) (r : Placed A) (old new : List (List (List ℕ))) : Type 0 where
  pub each : (v : ℕ) → slice_index_or new v [] ≡ slice_index_or old v [] ++ aliases_among name_of is_primary value_of (r ∷ []) v

-- they are those of some records
pub record AreListed {A : Type 0} (name_of : A → List ℕ) (is_primary : A → Bool) (value_of : A → ℕ) (records : List (Placed A)) (lists : List (List (List ℕ))) : Type 0 where
  pub each : (v : ℕ) → slice_index_or lists v [] ≡ aliases_among name_of is_primary value_of records v

-- they are those of a table, where they are wanted
pub record AreAliases (wanted : Bool) (symbols : Symbols) (table : TableKind) (lists : List (List (List ℕ))) : Type 0 where
  pub each : wanted ≡ true → (value : ℕ) → slice_index_or lists value [] ≡ aliases_in symbols table value
