-- The listing by names of each table of symbols that were read.
use Rattle.std.proofs.Common.{◌≡◌, ℕ, true, List, refl}
use Rattle.pol_fields.specs.declared.TableKind.{TableKind}
use Rattle.pol_fields.specs.declared.TableKind.TheVariants.{Commons, Classes, Roles, Types, Users, Booleans, Levels, Categories}
use Rattle.pol_cursor.specs.Outcome.{Got}
use Rattle.pol_symtab.specs.Inner.Freshness.{Gives}
use Rattle.pol_symtab.specs.SymbolTables.{Table, table_start}
use Rattle.pol_symtab.proofs.FreshRecords.{Gives-part, Gives-done}
use Rattle.pol_commons.specs.declared.CommonRec.{CommonRec}
use Rattle.pol_commons.specs.CommonTable.{after_common, common_under, commons_at}
use Rattle.pol_commons.specs.Inner.CommonFreshness.{common_is_fresh}
use Rattle.pol_datums.specs.Flags.{is_primary_flag}
use Rattle.pol_datums.specs.TypeRecord.{is_primary_type}
use Rattle.pol_datums.specs.Inner.DatumFreshness.{role_is_fresh, type_is_fresh, boolean_is_fresh, sensitivity_is_fresh, category_is_fresh}
use Rattle.pol_classes.specs.ClassTables.{after_class, class_start, class_table_at, class_under}
use Rattle.pol_classes.specs.Inner.ClassFreshness.{class_is_fresh}
use Rattle.pol_symbols.specs.declared.symbols.Symbols.{Symbols}
use Rattle.pol_symbols.specs.declared.symbols.RuleTables.{RuleTables}
use Rattle.pol_symbols.specs.declared.symbols.OtherTables.{OtherTables}
use Rattle.pol_symbols.specs.PolicySymbols.{roles_at, types_at, users_at, booleans_at, levels_at, categories_at, rule_tables_at, other_tables_at, symbols_at}
use Rattle.pol_symbols.specs.Inner.UserFreshness.{user_is_fresh}
use Rattle.info_lines.specs.ListedOnce.{IsListedOnce}
use Rattle.info_lines.specs.NameOrder.{number_of_rank, primary_numbers}
use Rattle.info_lines.proofs.ListedOnce.{AreDistinct, ranges_listed}
use Rattle.info_lines.proofs.DistinctRecords.{table_distinct}

record RulesDistinct (tables : RuleTables) : Type 0 where
  commons : AreDistinct (λ common. common.name) (λ common. true) (λ common. common.value) tables.commons.nprim tables.commons.records
  classes : AreDistinct (λ class. class.name) (λ class. true) (λ class. class.value) tables.classes.nprim tables.classes.records
  roles : AreDistinct (λ role. role.name) (λ role. true) (λ role. role.value) tables.roles.nprim tables.roles.records
  types : AreDistinct (λ t. t.name) (λ t. is_primary_type t.properties) (λ t. t.value) tables.types.nprim tables.types.records

record OthersDistinct (tables : OtherTables) : Type 0 where
  users : AreDistinct (λ user. user.name) (λ user. true) (λ user. user.value) tables.users.nprim tables.users.records
  booleans : AreDistinct (λ boolean. boolean.name) (λ boolean. true) (λ boolean. boolean.value) tables.booleans.nprim tables.booleans.records
  levels : AreDistinct (λ level. level.name) (λ level. is_primary_flag level.isalias) (λ level. level.sens) tables.levels.nprim tables.levels.records
  categories : AreDistinct (λ category. category.name) (λ category. is_primary_flag category.isalias) (λ category. category.value) tables.categories.nprim tables.categories.records

-- ---- each table that was read

commons_distinct : Gives commons_at (λ table. AreDistinct (λ common. common.name) (λ common. true) (λ common. common.value) table.nprim table.records)
unfolding commons_at
commons_distinct =
    table_distinct common_under after_common (λ common. common.name) (λ common. true) (λ common. common.value) (λ context. context.nprim) (λ context. context.taken) table_start
    (λ context. common_is_fresh context.taken context.nprim) (λ context common. (refl, refl)) (λ nprim. refl)

classes_distinct : (version : ℕ) (commons : Table CommonRec) → Gives (class_table_at version commons) (λ table. AreDistinct (λ class. class.name) (λ class. true) (λ class. class.value) table.nprim table.records)
unfolding class_table_at
classes_distinct version commons =
    table_distinct (class_under version) after_class (λ class. class.name) (λ class. true) (λ class. class.value) (λ context. context.table.nprim) (λ context. context.table.taken) (class_start commons)
    (λ context. class_is_fresh version context.table.taken context.table.nprim context.commons) (λ context class. (refl, refl)) (λ nprim. refl)

roles_distinct : Gives roles_at (λ table. AreDistinct (λ role. role.name) (λ role. true) (λ role. role.value) table.nprim table.records)
unfolding roles_at
roles_distinct =
    table_distinct _ _ (λ role. role.name) (λ role. true) (λ role. role.value) (λ context. context.nprim) (λ context. context.taken) table_start
    (λ context. role_is_fresh context.taken context.nprim) (λ context role. (refl, refl)) (λ nprim. refl)

types_distinct : Gives types_at (λ table. AreDistinct (λ t. t.name) (λ t. is_primary_type t.properties) (λ t. t.value) table.nprim table.records)
unfolding types_at
types_distinct =
    table_distinct _ _ (λ t. t.name) (λ t. is_primary_type t.properties) (λ t. t.value) (λ context. context.nprim) (λ context. context.taken) table_start
    (λ context. type_is_fresh context.taken context.nprim) (λ context t. (refl, refl)) (λ nprim. refl)

users_distinct : Gives users_at (λ table. AreDistinct (λ user. user.name) (λ user. true) (λ user. user.value) table.nprim table.records)
unfolding users_at
users_distinct =
    table_distinct _ _ (λ user. user.name) (λ user. true) (λ user. user.value) (λ context. context.nprim) (λ context. context.taken) table_start
    (λ context. user_is_fresh context.taken context.nprim) (λ context user. (refl, refl)) (λ nprim. refl)

booleans_distinct : Gives booleans_at (λ table. AreDistinct (λ boolean. boolean.name) (λ boolean. true) (λ boolean. boolean.value) table.nprim table.records)
unfolding booleans_at
booleans_distinct =
    table_distinct _ _ (λ boolean. boolean.name) (λ boolean. true) (λ boolean. boolean.value) (λ context. context.nprim) (λ context. context.taken) table_start
    (λ context. boolean_is_fresh context.taken context.nprim) (λ context boolean. (refl, refl)) (λ nprim. refl)

levels_distinct : Gives levels_at (λ table. AreDistinct (λ level. level.name) (λ level. is_primary_flag level.isalias) (λ level. level.sens) table.nprim table.records)
unfolding levels_at
levels_distinct =
    table_distinct _ _ (λ level. level.name) (λ level. is_primary_flag level.isalias) (λ level. level.sens) (λ context. context.nprim) (λ context. context.taken) table_start
    (λ context. sensitivity_is_fresh context.taken context.nprim) (λ context level. (refl, refl)) (λ nprim. refl)

categories_distinct : Gives categories_at (λ table. AreDistinct (λ category. category.name) (λ category. is_primary_flag category.isalias) (λ category. category.value) table.nprim table.records)
unfolding categories_at
categories_distinct =
    table_distinct _ _ (λ category. category.name) (λ category. is_primary_flag category.isalias) (λ category. category.value) (λ context. context.nprim) (λ context. context.taken) table_start
    (λ context. category_is_fresh context.taken context.nprim) (λ context category. (refl, refl)) (λ nprim. refl)

-- ---- all of them

rules_distinct : (version : ℕ) → Gives (rule_tables_at version) RulesDistinct
unfolding rule_tables_at
rules_distinct version =
    Gives-part commons_distinct λ commons are_commons.
    Gives-part (classes_distinct version commons) λ classes are_classes.
    Gives-part roles_distinct λ roles are_roles.
    Gives-part types_distinct λ types are_types.
    Gives-done _ _ (record { commons = are_commons; classes = are_classes; roles = are_roles; types = are_types })

others_distinct : Gives other_tables_at OthersDistinct
unfolding other_tables_at
others_distinct =
    Gives-part users_distinct λ users are_users.
    Gives-part booleans_distinct λ booleans are_booleans.
    Gives-part levels_distinct λ levels are_levels.
    Gives-part categories_distinct λ categories are_categories.
    Gives-done _ _ (record { users = are_users; booleans = are_booleans; levels = are_levels; categories = are_categories })

listed : (symbols : Symbols) → RulesDistinct (record { commons = symbols.commons; classes = symbols.classes; roles = symbols.roles; types = symbols.types })
    → OthersDistinct (record { users = symbols.users; booleans = symbols.booleans; levels = symbols.levels; categories = symbols.categories }) → (table : TableKind) → IsListedOnce symbols table (primary_numbers symbols table)
unfolding primary_numbers number_of_rank
listed symbols rules others Commons = ranges_listed _ _ (λ common. common.value) _ _ rules.commons
listed symbols rules others Classes = ranges_listed _ _ (λ class. class.value) _ _ rules.classes
listed symbols rules others Roles = ranges_listed _ _ (λ role. role.value) _ _ rules.roles
listed symbols rules others Types = ranges_listed _ _ (λ t. t.value) _ _ rules.types
listed symbols rules others Users = ranges_listed _ _ (λ user. user.value) _ _ others.users
listed symbols rules others Booleans = ranges_listed _ _ (λ boolean. boolean.value) _ _ others.booleans
listed symbols rules others Levels = ranges_listed _ _ (λ level. level.sens) _ _ others.levels
listed symbols rules others Categories = ranges_listed _ _ (λ category. category.value) _ _ others.categories

symbols_listed : (version : ℕ) → Gives (symbols_at version) (λ symbols. (table : TableKind) → IsListedOnce symbols table (primary_numbers symbols table))
unfolding symbols_at
symbols_listed version =
    Gives-part (rules_distinct version) λ first rules.
    Gives-part others_distinct λ others are.
    Gives-done _ _ (listed _ rules are)

pub tables_listed : (version : ℕ) (bytes : List ℕ) (place next : ℕ) (symbols : Symbols) (table : TableKind) → symbols_at version bytes place ≡ Got symbols next → IsListedOnce symbols table (primary_numbers symbols table)
tables_listed version bytes place next symbols table read = (symbols_listed version).each bytes place symbols next read table
