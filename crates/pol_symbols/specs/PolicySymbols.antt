-- The eight symbol tables of a policy in the order of the file (libsepol's policydb_read), and searches through their records.
use Rattle.std.specs.Prelude.{ℕ, Bool, true, Option, Some, None, List, [], ◌++◌, length, map, option_map}
use Rattle.std.specs.List.{find}
use Rattle.pol_fields.specs.declared.TableKind.{TableKind}
use Rattle.pol_fields.specs.declared.TableKind.TheVariants.{Commons, Classes, Roles, Types, Users, Booleans, Levels, Categories}
use Rattle.pol_cursor.specs.Outcome.{Reader, ◌>>=◌, done}
use Rattle.pol_cursor.specs.References.{Placed}
use Rattle.pol_symtab.specs.Claims.{Claims, claims_after}
use Rattle.pol_symtab.specs.SymbolTables.{Table, table_at, table_start, declares, value_named, primary_index, primary_name, rank_of}
use Rattle.pol_commons.specs.declared.CommonRec.{CommonRec}
use Rattle.pol_commons.specs.declared.PermissionRec.{PermissionRec}
use Rattle.pol_commons.specs.CommonTable.{commons_at, inherited_from}
use Rattle.pol_commons.specs.Permissions.{mask_of, of_name, of_value}
use Rattle.pol_datums.specs.declared.RoleRec.{RoleRec}
use Rattle.pol_datums.specs.declared.TypeRec.{TypeRec}
use Rattle.pol_datums.specs.declared.BooleanRec.{BooleanRec}
use Rattle.pol_datums.specs.declared.SensitivityRec.{SensitivityRec}
use Rattle.pol_datums.specs.declared.CategoryRec.{CategoryRec}
use Rattle.pol_datums.specs.declared.Flavour.{Flavour}
use Rattle.pol_datums.specs.RoleRecord.{role_at}
use Rattle.pol_datums.specs.TypeRecord.{type_at, is_primary_type, flavour_of}
use Rattle.pol_datums.specs.BooleanRecord.{boolean_at}
use Rattle.pol_datums.specs.SensitivityRecord.{sensitivity_at}
use Rattle.pol_datums.specs.CategoryRecord.{category_at}
use Rattle.pol_datums.specs.Flags.{is_primary_flag}
use Rattle.pol_classes.specs.declared.ClassRec.{ClassRec}
use Rattle.pol_symbols.specs.declared.user_rec.UserRec.{UserRec}
use Rattle.pol_symbols.specs.declared.symbols.Symbols.{Symbols}
use Rattle.pol_symbols.specs.declared.symbols.RuleTables.{RuleTables}
use Rattle.pol_symbols.specs.declared.symbols.OtherTables.{OtherTables}
use Rattle.pol_classes.specs.ClassTables.{class_table_at}
use Rattle.pol_symbols.specs.UserRecord.{user_at}

-- ---- how they are read

-- a table whose records are read under nprim and what the ones before them have taken
abbrev pub table_of : {A : Type 0} → (Claims → ℕ → Reader A) → (A → List ℕ) → (A → Bool) → (A → ℕ) → Reader (Table A)
table_of record_at name_of is_primary value_of =
    table_at (λ context. record_at context.taken context.nprim) (λ context x. record context { taken = claims_after context.taken (name_of x) (is_primary x) (value_of x) }) table_start

unfoldable pub roles_at : Reader (Table RoleRec)
roles_at = table_of role_at (λ role. role.name) (λ role. true) (λ role. role.value)

unfoldable pub types_at : Reader (Table TypeRec)
types_at = table_of type_at (λ t. t.name) (λ t. is_primary_type t.properties) (λ t. t.value)

unfoldable pub users_at : Reader (Table UserRec)
users_at = table_of user_at (λ user. user.name) (λ user. true) (λ user. user.value)

unfoldable pub booleans_at : Reader (Table BooleanRec)
booleans_at = table_of boolean_at (λ boolean. boolean.name) (λ boolean. true) (λ boolean. boolean.value)

unfoldable pub levels_at : Reader (Table SensitivityRec)
levels_at = table_of sensitivity_at (λ level. level.name) (λ level. is_primary_flag level.isalias) (λ level. level.sens)

unfoldable pub categories_at : Reader (Table CategoryRec)
categories_at = table_of category_at (λ category. category.name) (λ category. is_primary_flag category.isalias) (λ category. category.value)

-- the tables that rules name things by
unfoldable pub rule_tables_at : ℕ → Reader RuleTables
rule_tables_at version = do
  commons ← commons_at
  classes ← class_table_at version commons
  roles ← roles_at
  types ← types_at
  done (record { commons = commons; classes = classes; roles = roles; types = types })

-- the tables behind them: users, booleans and the two of MLS
unfoldable pub other_tables_at : Reader OtherTables
other_tables_at = do
  users ← users_at
  booleans ← booleans_at
  levels ← levels_at
  categories ← categories_at
  done (record { users = users; booleans = booleans; levels = levels; categories = categories })

-- all eight, in this order
unfoldable pub symbols_at : ℕ → Reader Symbols
symbols_at version = do
  first ← rule_tables_at version
  others ← other_tables_at
  done (record {
    commons = first.commons;
    classes = first.classes;
    roles = first.roles;
    types = first.types;
    users = others.users;
    booleans = others.booleans;
    levels = others.levels;
    categories = others.categories;
  })

-- ---- what a name or a value finds in a table

-- What is asked of one of the tables, by what its records have: the name of each, whether it is primary, and its value.
abbrev pub of_table : {R : Type 0} → ((A : Type 0) → (A → List ℕ) → (A → Bool) → (A → ℕ) → Table A → R) → Symbols → TableKind → R
of_table ask symbols Commons = ask CommonRec (λ common. common.name) (λ common. true) (λ common. common.value) symbols.commons
of_table ask symbols Classes = ask ClassRec (λ class. class.name) (λ class. true) (λ class. class.value) symbols.classes
of_table ask symbols Roles = ask RoleRec (λ role. role.name) (λ role. true) (λ role. role.value) symbols.roles
of_table ask symbols Types = ask TypeRec (λ t. t.name) (λ t. is_primary_type t.properties) (λ t. t.value) symbols.types
of_table ask symbols Users = ask UserRec (λ user. user.name) (λ user. true) (λ user. user.value) symbols.users
of_table ask symbols Booleans = ask BooleanRec (λ boolean. boolean.name) (λ boolean. true) (λ boolean. boolean.value) symbols.booleans
of_table ask symbols Levels = ask SensitivityRec (λ level. level.name) (λ level. is_primary_flag level.isalias) (λ level. level.sens) symbols.levels
of_table ask symbols Categories = ask CategoryRec (λ category. category.name) (λ category. is_primary_flag category.isalias) (λ category. category.value) symbols.categories

-- what its records name, in file order: the names, and the values of these, those of aliases among them
abbrev pub record_names : Symbols → TableKind → List (List ℕ)
record_names symbols table = of_table (λ A name_of is_primary value_of t. map (λ r. name_of r.value) t.records) symbols table

abbrev pub record_values : Symbols → TableKind → List ℕ
record_values symbols table = of_table (λ A name_of is_primary value_of t. map (λ r. value_of r.value) t.records) symbols table

-- the value of the record of a name, an alias or not
abbrev pub value_in : Symbols → TableKind → List ℕ → Option ℕ
value_in symbols table = of_table (λ A name_of is_primary value_of t. value_named name_of value_of t.records) symbols table

-- the place in its list of the primary record of a value
abbrev pub index_in : Symbols → TableKind → ℕ → Option ℕ
index_in symbols table = of_table (λ A name_of is_primary value_of t. primary_index is_primary value_of t.records) symbols table

-- the name of that record
abbrev pub name_in : Symbols → TableKind → ℕ → Option (List ℕ)
name_in symbols table = of_table (λ A name_of is_primary value_of t. primary_name name_of is_primary value_of t.records) symbols table

-- the rank of that name among the primary names of its table
abbrev pub rank_in : Symbols → TableKind → ℕ → Option ℕ
rank_in symbols table = of_table (λ A name_of is_primary value_of t. rank_of name_of is_primary value_of t.records) symbols table

-- the greatest value that the table may declare, and how many records it has
abbrev pub prims_in : Symbols → TableKind → ℕ
prims_in symbols table = of_table (λ A name_of is_primary value_of t. t.nprim) symbols table

abbrev pub count_in : Symbols → TableKind → ℕ
count_in symbols table = of_table (λ A name_of is_primary value_of t. length t.records) symbols table

-- ---- types

-- what a record of the table of types declares, where there is one
abbrev pub flavour_found : Option (Placed TypeRec) → Option Flavour
flavour_found None = None
flavour_found (Some t) = flavour_of t.value.properties

-- whether the value of a type is declared as an attribute or as none
abbrev pub flavour_in : Symbols → ℕ → Option Flavour
flavour_in symbols value = flavour_found (find (declares (λ t. is_primary_type t.properties) (λ t. t.value) value) symbols.types.records)

-- ---- the permissions of a class, which are its own and those of its common

abbrev pub permissions_of : Symbols → ClassRec → List PermissionRec
permissions_of symbols class = class.permissions ++ inherited_from symbols.commons class.common

-- those of the class, where there is one
abbrev pub permissions_found : Symbols → Option (Placed ClassRec) → List PermissionRec
permissions_found symbols None = []
permissions_found symbols (Some class) = permissions_of symbols class.value

-- those of the class of a value
abbrev pub permissions_in_class : Symbols → ℕ → List PermissionRec
permissions_in_class symbols value = permissions_found symbols (find (declares (λ class. true) (λ class. class.value) value) symbols.classes.records)

-- the name of the permission of a value
abbrev pub permission_name_in : Symbols → ℕ → ℕ → Option (List ℕ)
permission_name_in symbols class value = option_map (λ permission. permission.name) (of_value value (permissions_in_class symbols class))

-- the value of the permission of a name
abbrev pub permission_value_in : Symbols → ℕ → List ℕ → Option ℕ
permission_value_in symbols class name = option_map (λ permission. permission.value) (of_name name (permissions_in_class symbols class))

-- their bits in an access vector
abbrev pub permission_mask_in : Symbols → ℕ → ℕ
permission_mask_in symbols class = mask_of (permissions_in_class symbols class)
