-- The aliases of types, sensitivities and categories: names that records of a table give to a value without declaring it, which
-- SETools prints as a set (libsepol's type records that are not primary, and isalias of the other two).
use Rattle.std.specs.Prelude.{ℕ, ◌++◌, [], ◌==◌, ◌&&◌, not, Bool, List, map, length, codes, nat_eq, if◌then◌else◌}
use Rattle.std.specs.List.{filter}
use Rattle.pol_fields.specs.declared.TableKind.{TableKind}
use Rattle.pol_fields.specs.declared.TableKind.TheVariants.{Types, Levels, Categories}
use Rattle.pol_cursor.specs.References.{Placed}
use Rattle.pol_datums.specs.TypeRecord.{is_primary_type}
use Rattle.pol_datums.specs.Flags.{is_primary_flag}
use Rattle.pol_texts.specs.SetTexts.{set_text}
use Rattle.pol_symbols.specs.declared.symbols.Symbols.{Symbols}
use Rattle.pol_texts.specs.NameLists.{in_order}

-- a record is an alias of a value: it is not primary, and the value is the one that it stands for
abbrev pub is_alias_of : {A : Type 0} → (A → Bool) → (A → ℕ) → ℕ → Placed A → Bool
is_alias_of is_primary value_of value r = not (is_primary r.value) && nat_eq (value_of r.value) value

-- the names of the aliases of a value among some records, in their order
unfoldable pub aliases_among : {A : Type 0} → (A → List ℕ) → (A → Bool) → (A → ℕ) → List (Placed A) → ℕ → List (List ℕ)
aliases_among name_of is_primary value_of records value = map (λ r. name_of r.value) (filter (is_alias_of is_primary value_of value) records)

-- the aliases of a value in a table, in the order of its list: the other tables have none
abbrev pub aliases_in : Symbols → TableKind → ℕ → List (List ℕ)
aliases_in symbols Types value = aliases_among (λ t. t.name) (λ t. is_primary_type t.properties) (λ t. t.value) symbols.types.records value
aliases_in symbols Levels value = aliases_among (λ level. level.name) (λ level. is_primary_flag level.isalias) (λ level. level.sens) symbols.levels.records value
aliases_in symbols Categories value = aliases_among (λ category. category.name) (λ category. is_primary_flag category.isalias) (λ category. category.value) symbols.categories.records value
aliases_in symbols table value = []

-- the aliases of a value in a table, in the order of their bytes
abbrev pub alias_names : Symbols → TableKind → ℕ → List (List ℕ)
alias_names symbols table value = in_order (aliases_in symbols table value)

-- what a statement says of its aliases, where there are some
abbrev pub alias_text : List (List ℕ) → List ℕ
alias_text names = if length names == 0 then [] else codes " alias " ++ set_text names
