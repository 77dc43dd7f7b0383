-- The entries of commons, sensitivities, categories, roles, users and booleans: a symbol is known by its name, and is stated as the
-- listings state it.
use Rattle.std.specs.Prelude.{ℕ, List, [], ◌∷◌, ◌++◌, codes, get_or, map}
use Rattle.pol_fields.specs.declared.TableKind.{TableKind}
use Rattle.pol_fields.specs.declared.TableKind.TheVariants.{Commons, Classes, Roles, Types, Users, Booleans, Levels, Categories}
use Rattle.pol_bitmap.specs.Nodes.{bits_of}
use Rattle.pol_commons.specs.declared.CommonRec.{CommonRec}
use Rattle.pol_datums.specs.declared.BooleanRec.{BooleanRec}
use Rattle.pol_datums.specs.declared.RoleRec.{RoleRec}
use Rattle.pol_symbols.specs.declared.UserRec.{UserRec}
use Rattle.pol_symbols.specs.declared.Symbols.{Symbols}
use Rattle.pol_symbols.specs.PolicySymbols.{record_names, record_values}
use Rattle.info_lines.specs.NameOrder.{primary_numbers}
use Rattle.info_lines.specs.NameSets.{names_of_bits}
use Rattle.info_symbols.specs.Aliases.{alias_names, alias_text}
use Rattle.info_symbols.specs.SymbolLines.{state_word, symbol_statements}
use Rattle.diff_entries.specs.Entries.{Entry}
use Rattle.diff_entries.specs.declared.Part.{Part}
use Rattle.diff_entries.specs.declared.Label.TheVariants.{Unnamed, Alias, Roles as RolesLabel, Types as TypesLabel}
use Rattle.diff_parts.specs.EntryParts.{level_part, names_part, permission_names, range_part, word_part}

-- ---- records by their numbers

-- the name of the record of a number, and the value that it names
abbrev pub name_at : Symbols → TableKind → ℕ → List ℕ
name_at symbols table number = get_or (record_names symbols table) number []

abbrev pub value_at : Symbols → TableKind → ℕ → ℕ
value_at symbols table number = get_or (record_values symbols table) number 0

-- the word that declares a symbol of a table, with the space behind it
abbrev pub declaring_word : TableKind → List ℕ
declaring_word Commons = codes "common "
declaring_word Classes = codes "class "
declaring_word Roles = codes "role "
declaring_word Types = codes "type "
declaring_word Users = codes "user "
declaring_word Booleans = codes "bool "
declaring_word Levels = codes "sensitivity "
declaring_word Categories = codes "category "

-- the beginning of its statement
abbrev pub symbol_head : Symbols → TableKind → ℕ → List ℕ
symbol_head symbols table number = declaring_word table ++ name_at symbols table number

-- ---- commons, roles, users and booleans

-- the permissions of a common are compared
abbrev pub common_parts : CommonRec → List Part
common_parts common = names_part Unnamed (permission_names common.permissions) ∷ []

-- the types of a role
abbrev pub role_parts : Symbols → RoleRec → List Part
role_parts symbols role = names_part TypesLabel (names_of_bits symbols Types (bits_of role.types)) ∷ []

-- the roles of a user, its level and its range
abbrev pub user_parts : Symbols → UserRec → List Part
user_parts symbols user = names_part RolesLabel (names_of_bits symbols Roles (bits_of user.roles)) ∷ level_part symbols user.level ∷ range_part symbols user.range ∷ []

-- the state of a boolean
abbrev pub boolean_parts : BooleanRec → List Part
boolean_parts boolean = word_part (state_word boolean.state) ∷ []

-- The parts of all records of a table, in the order of its list. Those of the other tables are made elsewhere.
abbrev pub symbol_parts : Symbols → TableKind → List (List Part)
symbol_parts symbols Commons = map (λ common. common_parts common.value) symbols.commons.records
symbol_parts symbols Roles = map (λ role. role_parts symbols role.value) symbols.roles.records
symbol_parts symbols Users = map (λ user. user_parts symbols user.value) symbols.users.records
symbol_parts symbols Booleans = map (λ boolean. boolean_parts boolean.value) symbols.booleans.records
symbol_parts symbols table = []

abbrev pub parts_of_number : Symbols → TableKind → ℕ → List Part
parts_of_number symbols table number = get_or (symbol_parts symbols table) number []

-- the entry of the record of a number: its statement is its line in the listing
unfoldable pub symbol_entry : Symbols → TableKind → ℕ → Entry
symbol_entry symbols table number = record {
  key = name_at symbols table number ∷ [];
  parts = parts_of_number symbols table number;
  statement = get_or (symbol_statements symbols table) number [];
  head = symbol_head symbols table number;
}

-- the entries of all primary records of a table, in the order of their names
abbrev pub symbol_entries : Symbols → TableKind → List Entry
symbol_entries symbols table = map (symbol_entry symbols table) (primary_numbers symbols table)

-- ---- sensitivities and categories

-- the aliases of a record's value
abbrev pub aliases_at : Symbols → TableKind → ℕ → List (List ℕ)
aliases_at symbols table number = alias_names symbols table (value_at symbols table number)

-- The entry of the record of a number, whose aliases are compared: sensitivity NAME alias ALIASES; or category NAME alias ALIASES;
unfoldable pub aliased_entry : Symbols → TableKind → ℕ → Entry
aliased_entry symbols table number = record {
  key = name_at symbols table number ∷ [];
  parts = names_part Alias (aliases_at symbols table number) ∷ [];
  statement = symbol_head symbols table number ++ alias_text (aliases_at symbols table number) ++ codes ";";
  head = symbol_head symbols table number;
}

abbrev pub aliased_entries : Symbols → TableKind → List Entry
aliased_entries symbols table = map (aliased_entry symbols table) (primary_numbers symbols table)

-- ---- the components

abbrev pub common_entries : Symbols → List Entry
common_entries symbols = symbol_entries symbols Commons

abbrev pub sensitivity_entries : Symbols → List Entry
sensitivity_entries symbols = aliased_entries symbols Levels

abbrev pub category_entries : Symbols → List Entry
category_entries symbols = aliased_entries symbols Categories

abbrev pub role_entries : Symbols → List Entry
role_entries symbols = symbol_entries symbols Roles

abbrev pub user_entries : Symbols → List Entry
user_entries symbols = symbol_entries symbols Users

abbrev pub boolean_entries : Symbols → List Entry
boolean_entries symbols = symbol_entries symbols Booleans
