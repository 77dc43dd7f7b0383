-- What stands at the head of a policy that is made, and its symbol tables, are read.
use Rattle.std.proofs.Common.{◌≡◌, ℕ, ◌+◌, ◌≤◌, List, ◌++◌, refl, ap, append_assoc, arith}
use Rattle.std.proofs.lemmas.List.{append-nil}
use Rattle.pol_symtab.specs.SymbolTables.{bare, spell_table}
use Rattle.pol_commons.specs.CommonRecord.{spell_common}
use Rattle.pol_datums.specs.RoleRecord.{spell_role}
use Rattle.pol_datums.specs.TypeRecord.{spell_type}
use Rattle.pol_datums.specs.BooleanRecord.{spell_boolean}
use Rattle.pol_datums.specs.SensitivityRecord.{spell_sensitivity}
use Rattle.pol_datums.specs.CategoryRecord.{spell_category}
use Rattle.pol_classes.specs.ClassRecord.{spell_class}
use Rattle.pol_symbols.specs.UserRecord.{spell_user}
use Rattle.pol_symbols.specs.declared.RuleTables.{RuleTables}
use Rattle.pol_symbols.specs.declared.OtherTables.{OtherTables}
use Rattle.pol_symbols.specs.PolicySymbols.{roles_at, types_at, users_at, booleans_at, levels_at, categories_at, rule_tables_at, other_tables_at, symbols_at}
use Rattle.pol_file.specs.PolicyParts.{front_at}
use Rattle.pol_tree.specs.TreeSpelling.{spell_front, spell_symbols}
use Rattle.pol_write.proofs.FoundParts.{HasFront, HasSymbols}
use Rattle.pol_make.specs.MadeSymbols.{attribute_count, made_nprims, made_commons, made_classes, made_roles, made_types, made_users, made_booleans, made_levels, made_categories}
use Rattle.pol_make.specs.Made.{made}
use Rattle.pol_moved.proofs.Granted.{Grants, grants-done, grants-part, grants-as}
use Rattle.pol_moved.proofs.GrantedHeader.{header-granted}
use Rattle.pol_make.proofs.GrantedTypes.{types-granted, categories-granted}
use Rattle.pol_make.proofs.GrantedFew.{commons-granted, roles-granted, booleans-granted, levels-granted, nothing-granted, one-granted}
use Rattle.pol_make.proofs.GrantedClasses.{classes-granted}
use Rattle.pol_make.proofs.GrantedUsers.{users-granted}

-- ---- the header and the two bitmaps behind it

pub front-granted : (n : ℕ) → Grants front_at (HasFront (made n)) (spell_front (made n))
unfolding front_at spell_front made
front-granted n =
    grants-as
    (grants-part _ (header-granted (record { version = 31; config = 5 }) (record { version = omega arith; config = omega arith }) refl refl) λ header is_header.
    grants-part _ (one-granted 1 (omega arith)) λ capabilities are_capabilities.
    grants-part _ nothing-granted λ permissive are_permissive.
    grants-done _ (record { header = is_header; capabilities = are_capabilities; permissive = are_permissive }))
    (simp (append_assoc, append-nil))

-- ---- the symbol tables

record HasFirst (n : ℕ) (tables : RuleTables) : Type 0 where
  commons : bare tables.commons ≡ record { nprim = 1; records = made_commons }
  classes : bare tables.classes ≡ record { nprim = 3; records = made_classes }
  roles : bare tables.roles ≡ record { nprim = 2; records = made_roles n }
  types : bare tables.types ≡ record { nprim = n + attribute_count n; records = made_types n }

record HasOthers (tables : OtherTables) : Type 0 where
  users : bare tables.users ≡ record { nprim = 1; records = made_users }
  booleans : bare tables.booleans ≡ record { nprim = 2; records = made_booleans }
  levels : bare tables.levels ≡ record { nprim = 1; records = made_levels }
  categories : bare tables.categories ≡ record { nprim = 1024; records = made_categories }

-- the first four tables, and the others
abbrev spell_first : ℕ → List ℕ
spell_first n =
    spell_table spell_common (record { nprim = 1; records = made_commons }) ++ spell_table spell_class (record { nprim = 3; records = made_classes }) ++ spell_table spell_role (record { nprim = 2; records = made_roles n })
    ++ spell_table spell_type (record { nprim = n + attribute_count n; records = made_types n })

abbrev spell_others : List ℕ
spell_others =
    spell_table spell_user (record { nprim = 1; records = made_users }) ++ spell_table spell_boolean (record { nprim = 2; records = made_booleans }) ++ spell_table spell_sensitivity (record { nprim = 1; records = made_levels })
    ++ spell_table spell_category (record { nprim = 1024; records = made_categories })

first-granted : (n : ℕ) → n ≤ 5000 → Grants (rule_tables_at 31) (HasFirst n) (spell_first n)
unfolding rule_tables_at roles_at types_at
first-granted n most =
    grants-as
    (grants-part _ commons-granted λ commons are_commons.
    grants-part _ (classes-granted commons (ap (λ table. table.records) are_commons)) λ classes are_classes.
    grants-part _ (roles-granted n most) λ roles are_roles.
    grants-part _ (types-granted n most) λ types are_types.
    grants-done _ (record { commons = are_commons; classes = are_classes; roles = are_roles; types = are_types }))
    (simp (append_assoc, append-nil))

others-granted : Grants other_tables_at HasOthers spell_others
unfolding other_tables_at users_at booleans_at levels_at categories_at
others-granted =
    grants-as
    (grants-part _ users-granted λ users are_users.
    grants-part _ booleans-granted λ booleans are_booleans.
    grants-part _ levels-granted λ levels are_levels.
    grants-part _ (categories-granted 1024 (omega arith)) λ categories are_categories.
    grants-done _ (record { users = are_users; booleans = are_booleans; levels = are_levels; categories = are_categories }))
    (simp (append_assoc, append-nil))

pub symbols-granted : (n : ℕ) → n ≤ 5000 → Grants (symbols_at 31) (HasSymbols (made n)) (spell_symbols (made n))
unfolding symbols_at spell_symbols made made_nprims
symbols-granted n most =
    grants-as
    (grants-part _ (first-granted n most) λ first has_first.
    grants-part _ others-granted λ others has_others.
    grants-done _ (record {
      commons = has_first.commons;
      classes = has_first.classes;
      roles = has_first.roles;
      types = has_first.types;
      users = has_others.users;
      booleans = has_others.booleans;
      levels = has_others.levels;
      categories = has_others.categories;
    }))
    (simp (append_assoc, append-nil))
