-- The look-ups in a table are those in what its records name.
use Rattle.std.proofs.Common.{◌≡◌, ℕ, Bool, true, List, length, refl, ◌∙◌}
use Rattle.std.specs.Prelude.{map}
use Rattle.std.proofs.lemmas.List.{length-map}
use Rattle.pol_fields.specs.declared.TableKind.{TableKind}
use Rattle.pol_fields.specs.declared.TableKind.TheVariants.{Commons, Classes, Roles, Types, Users, Booleans, Levels, Categories}
use Rattle.pol_symtab.specs.SymbolTables.{Table, value_named, primary_index, primary_name, rank_of}
use Rattle.pol_symtab.specs.Inner.Namings.{Naming, its_name, its_value, is_its_primary, naming_of, namings_of}
use Rattle.pol_symtab.proofs.Namings.{names_by, values_by, value_named_by, primary_index_by, primary_name_by, rank_of_by}
use Rattle.pol_commons.specs.declared.CommonRec.{CommonRec}
use Rattle.pol_datums.specs.declared.RoleRec.{RoleRec}
use Rattle.pol_datums.specs.declared.TypeRec.{TypeRec}
use Rattle.pol_datums.specs.declared.BooleanRec.{BooleanRec}
use Rattle.pol_datums.specs.declared.SensitivityRec.{SensitivityRec}
use Rattle.pol_datums.specs.declared.CategoryRec.{CategoryRec}
use Rattle.pol_datums.specs.Flags.{is_primary_flag}
use Rattle.pol_datums.specs.TypeRecord.{is_primary_type}
use Rattle.pol_classes.specs.declared.ClassRec.{ClassRec}
use Rattle.pol_symbols.specs.declared.user_rec.UserRec.{UserRec}
use Rattle.pol_symbols.specs.declared.symbols.Symbols.{Symbols}
use Rattle.pol_symbols.specs.PolicySymbols.{of_table, record_names, record_values, value_in, index_in, name_in, rank_in, prims_in, count_in}
use Rattle.pol_symbols.specs.Inner.TableNames.{names_in}

abbrev Asked : Type 0 → Type 1
Asked R = (A : Type 0) → (A → List ℕ) → (A → Bool) → (A → ℕ) → Table A → R

-- What is said of the names of each table is said of the names of one.
module _ {R : Type 0} (said : Table Naming → R) (ask : Asked R) (same : (A : Type 0) (name_of : A → List ℕ) (is_primary : A → Bool) (value_of : A → ℕ) (table : Table A) → said (namings_of name_of is_primary value_of table) ≡ ask A name_of is_primary value_of table) (symbols : Symbols) where
  by_names : (table : TableKind) → said (names_in symbols table) ≡ of_table ask symbols table
  by_names Commons = same CommonRec (λ common. common.name) (λ common. true) (λ common. common.value) symbols.commons
  by_names Classes = same ClassRec (λ class. class.name) (λ class. true) (λ class. class.value) symbols.classes
  by_names Roles = same RoleRec (λ role. role.name) (λ role. true) (λ role. role.value) symbols.roles
  by_names Types = same TypeRec (λ t. t.name) (λ t. is_primary_type t.properties) (λ t. t.value) symbols.types
  by_names Users = same UserRec (λ user. user.name) (λ user. true) (λ user. user.value) symbols.users
  by_names Booleans = same BooleanRec (λ boolean. boolean.name) (λ boolean. true) (λ boolean. boolean.value) symbols.booleans
  by_names Levels = same SensitivityRec (λ level. level.name) (λ level. is_primary_flag level.isalias) (λ level. level.sens) symbols.levels
  by_names Categories = same CategoryRec (λ category. category.name) (λ category. is_primary_flag category.isalias) (λ category. category.value) symbols.categories

-- What is asked with an argument may have it inside.
module _ {X R : Type 0} (ask : Asked (X → R)) (symbols : Symbols) (x : X) where
  applied : (table : TableKind) → of_table (λ A name_of is_primary value_of t. ask A name_of is_primary value_of t x) symbols table ≡ of_table ask symbols table x
  applied Commons = refl
  applied Classes = refl
  applied Roles = refl
  applied Types = refl
  applied Users = refl
  applied Booleans = refl
  applied Levels = refl
  applied Categories = refl

module _ (symbols : Symbols) (table : TableKind) where
  pub value_by : (name : List ℕ) → value_named its_name its_value (names_in symbols table).records name ≡ value_in symbols table name
  value_by name =
      by_names (λ names. value_named its_name its_value names.records name) (λ A name_of is_primary value_of t. value_named name_of value_of t.records name)
      (λ A name_of is_primary value_of t. value_named_by name_of is_primary value_of t.records name) symbols table
      ∙ applied (λ A name_of is_primary value_of t. value_named name_of value_of t.records) symbols name table

  pub index_by : (value : ℕ) → primary_index is_its_primary its_value (names_in symbols table).records value ≡ index_in symbols table value
  index_by value =
      by_names (λ names. primary_index is_its_primary its_value names.records value) (λ A name_of is_primary value_of t. primary_index is_primary value_of t.records value)
      (λ A name_of is_primary value_of t. primary_index_by name_of is_primary value_of t.records value) symbols table
      ∙ applied (λ A name_of is_primary value_of t. primary_index is_primary value_of t.records) symbols value table

  pub name_by : (value : ℕ) → primary_name its_name is_its_primary its_value (names_in symbols table).records value ≡ name_in symbols table value
  name_by value =
      by_names (λ names. primary_name its_name is_its_primary its_value names.records value) (λ A name_of is_primary value_of t. primary_name name_of is_primary value_of t.records value)
      (λ A name_of is_primary value_of t. primary_name_by name_of is_primary value_of t.records value) symbols table
      ∙ applied (λ A name_of is_primary value_of t. primary_name name_of is_primary value_of t.records) symbols value table

  pub rank_by : (value : ℕ) → rank_of its_name is_its_primary its_value (names_in symbols table).records value ≡ rank_in symbols table value
  rank_by value =
      by_names (λ names. rank_of its_name is_its_primary its_value names.records value) (λ A name_of is_primary value_of t. rank_of name_of is_primary value_of t.records value)
      (λ A name_of is_primary value_of t. rank_of_by name_of is_primary value_of t.records value) symbols table
      ∙ applied (λ A name_of is_primary value_of t. rank_of name_of is_primary value_of t.records) symbols value table

  pub record_names_by : map (λ symbol. its_name symbol.value) (names_in symbols table).records ≡ record_names symbols table
  record_names_by =
      by_names (λ names. map (λ symbol. its_name symbol.value) names.records) (λ A name_of is_primary value_of t. map (λ r. name_of r.value) t.records)
      (λ A name_of is_primary value_of t. names_by name_of is_primary value_of t.records) symbols table

  pub record_values_by : map (λ symbol. its_value symbol.value) (names_in symbols table).records ≡ record_values symbols table
  record_values_by =
      by_names (λ names. map (λ symbol. its_value symbol.value) names.records) (λ A name_of is_primary value_of t. map (λ r. value_of r.value) t.records)
      (λ A name_of is_primary value_of t. values_by name_of is_primary value_of t.records) symbols table

  pub prims_by : (names_in symbols table).nprim ≡ prims_in symbols table
  prims_by = by_names (λ names. names.nprim) (λ A name_of is_primary value_of t. t.nprim) (λ A name_of is_primary value_of t. refl) symbols table

  pub count_by_names : length (names_in symbols table).records ≡ count_in symbols table
  count_by_names =
      by_names (λ names. length names.records) (λ A name_of is_primary value_of t. length t.records)
      (λ A name_of is_primary value_of t. length-map t.records (naming_of name_of is_primary value_of)) symbols table
