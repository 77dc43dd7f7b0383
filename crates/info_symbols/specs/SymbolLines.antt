-- The lines of the records of symbol tables, as seinfo of SETools prints them: a name, and expanded the statement that declares it.
use Rattle.std.specs.Prelude.{ℕ, ◌++◌, ◌==◌, Bool, List, map, codes, if◌then◌else◌}
use Rattle.pol_fields.specs.declared.TableKind.{TableKind}
use Rattle.pol_fields.specs.declared.TableKind.TheVariants.{Commons, Classes, Roles, Types, Users, Booleans, Levels, Categories}
use Rattle.pol_datums.specs.declared.BooleanRec.{BooleanRec}
use Rattle.pol_symbols.specs.declared.symbols.Symbols.{Symbols}
use Rattle.pol_symbols.specs.PolicySymbols.{record_names}
use Rattle.info_symbols.specs.ClassLines.{class_statement, common_statement}
use Rattle.info_symbols.specs.MlsLines.{sensitivity_statement, category_statement}
use Rattle.info_symbols.specs.RoleLines.{role_statement}
use Rattle.info_symbols.specs.UserLines.{user_statement}

-- a state is 1 where a boolean is true by default
abbrev pub state_word : ℕ → List ℕ
state_word state = if state == 1 then codes "true" else codes "false"

-- bool NAME STATE;
unfoldable pub boolean_statement : BooleanRec → List ℕ
boolean_statement boolean = codes "bool " ++ boolean.name ++ codes " " ++ state_word boolean.state ++ codes ";"

-- The statements of all records of a table, in the order of its list. Types are listed elsewhere, and have their names alone here.
abbrev pub symbol_statements : Symbols → TableKind → List (List ℕ)
symbol_statements symbols Commons = map (λ common. common_statement common.value) symbols.commons.records
symbol_statements symbols Classes = map (λ class. class_statement class.value) symbols.classes.records
symbol_statements symbols Roles = map (λ role. role_statement symbols role.value) symbols.roles.records
symbol_statements symbols Types = map (λ t. t.value.name) symbols.types.records
symbol_statements symbols Users = map (λ user. user_statement symbols user.value) symbols.users.records
symbol_statements symbols Booleans = map (λ boolean. boolean_statement boolean.value) symbols.booleans.records
symbol_statements symbols Levels = map (λ level. sensitivity_statement symbols level.value) symbols.levels.records
symbol_statements symbols Categories = map (λ category. category_statement symbols category.value) symbols.categories.records

-- the lines of all records: their names, or expanded their statements
abbrev pub symbol_lines : Symbols → TableKind → Bool → List (List ℕ)
symbol_lines symbols table expand = if expand then symbol_statements symbols table else record_names symbols table
