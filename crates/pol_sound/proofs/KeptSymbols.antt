-- The symbol tables of a policy that was read are read at another version.
use Rattle.std.proofs.Common.{◌≡◌, ℕ, List, [], ◌++◌, sym, ap, subst, ◌∙◌, append_assoc}
use Rattle.std.proofs.lemmas.List.{append-nil}
use Rattle.pol_cursor.specs.Outcome.{Reader}
use Rattle.pol_cursor.specs.References.{values_of}
use Rattle.pol_symtab.specs.SymbolTables.{Table, BareTable, TableFits, bare, bare_table_at, table_start, spell_table}
use Rattle.pol_symtab.proofs.TableLaws.{table_unplaced}
use Rattle.pol_commons.specs.declared.CommonRec.{CommonRec}
use Rattle.pol_commons.specs.CommonRecord.{spell_common, CommonFits}
use Rattle.pol_commons.specs.CommonTable.{common_under, after_common, commons_at}
use Rattle.pol_commons.proofs.CommonLaws.{common_again}
use Rattle.pol_datums.specs.RoleRecord.{spell_role, RoleFits}
use Rattle.pol_datums.specs.TypeRecord.{spell_type, TypeFits}
use Rattle.pol_datums.specs.BooleanRecord.{spell_boolean, BooleanFits}
use Rattle.pol_datums.specs.SensitivityRecord.{spell_sensitivity, SensitivityFits}
use Rattle.pol_datums.specs.CategoryRecord.{spell_category, CategoryFits}
use Rattle.pol_datums.proofs.DatumLaws.{role_again, type_again, boolean_again, sensitivity_again, category_again}
use Rattle.pol_classes.specs.declared.ClassRec.{ClassRec}
use Rattle.pol_classes.specs.ClassRecord.{spell_class}
use Rattle.pol_classes.specs.ClassTables.{class_under, after_class, class_start, class_table_at}
use Rattle.pol_symbols.specs.UserRecord.{spell_user, UserFits}
use Rattle.pol_symbols.specs.declared.Symbols.{Symbols}
use Rattle.pol_symbols.specs.declared.RuleTables.{RuleTables}
use Rattle.pol_symbols.specs.declared.OtherTables.{OtherTables}
use Rattle.pol_symbols.specs.PolicySymbols.{roles_at, types_at, users_at, booleans_at, levels_at, categories_at, rule_tables_at, other_tables_at, symbols_at}
use Rattle.pol_symbols.proofs.UserLaws.{user_again}
use Rattle.pol_trans.specs.declared.NameTransRec.{NameTransRec}
use Rattle.pol_trans.specs.declared.NameGroupRec.{NameGroupRec}
use Rattle.pol_tree.specs.declared.Tree.{Tree}
use Rattle.pol_tree.specs.TreeRanges.{TreeFits}
use Rattle.pol_tree.specs.TreeSpelling.{table_of, spell_symbols}
use Rattle.pol_write.proofs.Findings.{FindsAgain, finds-part, finds-done, finds-as}
use Rattle.pol_write.proofs.PartLaws.{commons-laws, classes-laws, roles-laws, types-laws, users-laws, booleans-laws, levels-laws, categories-laws}
use Rattle.pol_write.proofs.FoundParts.{HasSymbols}
use Rattle.pol_moved.proofs.Granted.{Grants, grants-part, grants-done, grants-as, grants-through}
use Rattle.pol_moved.proofs.MovesSymbols.{moves-common, moves-role, moves-type, moves-user, moves-boolean, moves-sensitivity, moves-category}
use Rattle.pol_moved.proofs.Stood.{Stood, stood-as, stood-last, stood-through}
use Rattle.pol_sound.proofs.HeldClasses.{classes_at, class_table-granted}
use Rattle.pol_moved.proofs.Stood.{stood-found}
use Rattle.pol_sound.proofs.Kept.{table-kept}
use Rattle.pol_sound.proofs.MovedTree.{moved_tree}

-- ---- one table

-- a table that was read is read everywhere
abbrev KeepsTable : {A : Type 0} → Reader (Table A) → (A → List ℕ) → (A → Type 0) → Type 0
KeepsTable {A} r spell fits = (xs : BareTable A) → TableFits fits xs → (table : Table A) → bare table ≡ xs → Stood r table (spell_table spell xs) → Grants r (λ table. bare table ≡ xs) (spell_table spell xs)

commons-kept : KeepsTable commons_at spell_common CommonFits
unfolding commons_at
commons-kept = table-kept common_under after_common table_start spell_common CommonFits (λ context. common_again context.taken context.nprim) (λ context. moves-common context.taken context.nprim)

roles-kept : KeepsTable roles_at spell_role RoleFits
unfolding roles_at
roles-kept = table-kept _ _ table_start spell_role RoleFits (λ context. role_again context.taken context.nprim) (λ context. moves-role context.taken context.nprim)

types-kept : KeepsTable types_at spell_type TypeFits
unfolding types_at
types-kept = table-kept _ _ table_start spell_type TypeFits (λ context. type_again context.taken context.nprim) (λ context. moves-type context.taken context.nprim)

users-kept : KeepsTable users_at spell_user UserFits
unfolding users_at
users-kept = table-kept _ _ table_start spell_user UserFits (λ context. user_again context.taken context.nprim) (λ context. moves-user context.taken context.nprim)

booleans-kept : KeepsTable booleans_at spell_boolean BooleanFits
unfolding booleans_at
booleans-kept = table-kept _ _ table_start spell_boolean BooleanFits (λ context. boolean_again context.taken context.nprim) (λ context. moves-boolean context.taken context.nprim)

levels-kept : KeepsTable levels_at spell_sensitivity SensitivityFits
unfolding levels_at
levels-kept = table-kept _ _ table_start spell_sensitivity SensitivityFits (λ context. sensitivity_again context.taken context.nprim) (λ context. moves-sensitivity context.taken context.nprim)

categories-kept : KeepsTable categories_at spell_category CategoryFits
unfolding categories_at
categories-kept = table-kept _ _ table_start spell_category CategoryFits (λ context. category_again context.taken context.nprim) (λ context. moves-category context.taken context.nprim)

-- the table of classes, under any table of the same commons
classes-kept : (tree : Tree) (version : ℕ) → TreeFits tree → (commons others : Table CommonRec) → bare commons ≡ table_of tree 0 tree.commons → bare others ≡ table_of tree 0 tree.commons → (classes : Table ClassRec)
    → bare classes ≡ table_of tree 1 tree.classes → Stood (class_table_at tree.version commons) classes (spell_table spell_class (table_of tree 1 tree.classes))
    → Grants (class_table_at version others) (λ table. bare table ≡ classes_at version (table_of tree 1 tree.classes)) (spell_table spell_class (classes_at version (table_of tree 1 tree.classes)))
unfolding class_table_at
classes-kept tree version fits commons others are are_others classes are_classes stood =
    let old = table_of tree 1 tree.classes in
    let new = classes_at version old in
    let same : values_of commons.records ≡ values_of others.records = ap (λ (t : BareTable CommonRec). t.records) are ∙ sym (ap (λ (t : BareTable CommonRec). t.records) are_others) in
    let plain = stood-through _ (bare_table_at (class_under tree.version) after_class (class_start commons)) (λ table. bare table) (table_unplaced (class_under tree.version) after_class (class_start commons)) stood in
    let there = subst (λ (t : BareTable ClassRec). Stood (bare_table_at (class_under tree.version) after_class (class_start commons)) t (spell_table spell_class old)) are_classes plain in
    grants-through _ (bare_table_at (class_under version) after_class (class_start others)) (λ table. bare table) (λ t. t ≡ new) (spell_table spell_class new) (table_unplaced (class_under version) after_class (class_start others))
    (class_table-granted tree.version version commons others same old fits.classes there)

-- ---- the first four tables, and the others

abbrev text_of : {A : Type 0} → (A → List ℕ) → Tree → ℕ → List A → List ℕ
text_of spell tree number records = spell_table spell (table_of tree number records)

-- what stands behind the table of classes
abbrev behind_classes : Tree → List ℕ
behind_classes tree = text_of spell_role tree 2 tree.roles ++ text_of spell_type tree 3 tree.types

abbrev first_text : Tree → List ℕ
first_text tree = text_of spell_common tree 0 tree.commons ++ (text_of spell_class tree 1 tree.classes ++ behind_classes tree)

abbrev behind_users : Tree → List ℕ
behind_users tree = text_of spell_boolean tree 5 tree.booleans ++ (text_of spell_sensitivity tree 6 tree.levels ++ text_of spell_category tree 7 tree.categories)

abbrev others_text : Tree → List ℕ
others_text tree = text_of spell_user tree 4 tree.users ++ behind_users tree

first-there : (tree : Tree) → TreeFits tree → FindsAgain (rule_tables_at tree.version) (λ tables. Unit {0}) (first_text tree)
unfolding rule_tables_at
first-there tree fits =
    finds-as
    (finds-part _ (commons-laws.again (table_of tree 0 tree.commons) fits.commons) λ commons are_commons.
    finds-part _ ((classes-laws tree.version commons).again (table_of tree 1 tree.classes) fits.classes) λ classes are_classes.
    finds-part _ (roles-laws.again (table_of tree 2 tree.roles) fits.roles) λ roles are_roles.
    finds-part _ (types-laws.again (table_of tree 3 tree.types) fits.types) λ types are_types.
    finds-done _ tt)
    (simp (append_assoc, append-nil))

others-there : (tree : Tree) → TreeFits tree → FindsAgain other_tables_at (λ tables. Unit {0}) (others_text tree)
unfolding other_tables_at
others-there tree fits =
    finds-as
    (finds-part _ (users-laws.again (table_of tree 4 tree.users) fits.users) λ users are_users.
    finds-part _ (booleans-laws.again (table_of tree 5 tree.booleans) fits.booleans) λ booleans are_booleans.
    finds-part _ (levels-laws.again (table_of tree 6 tree.levels) fits.levels) λ levels are_levels.
    finds-part _ (categories-laws.again (table_of tree 7 tree.categories) fits.categories) λ categories are_categories.
    finds-done _ tt)
    (simp (append_assoc, append-nil))

module _ (tree : Tree) (version : ℕ) (entries : List NameTransRec) (groups : List NameGroupRec) (fits : TreeFits tree) where
  abbrev new : Tree
  new = moved_tree version tree entries groups

  record HasFirst (tables : RuleTables) : Type 0 where
    commons : bare tables.commons ≡ table_of new 0 new.commons
    classes : bare tables.classes ≡ table_of new 1 new.classes
    roles : bare tables.roles ≡ table_of new 2 new.roles
    types : bare tables.types ≡ table_of new 3 new.types

  record HasOthers (tables : OtherTables) : Type 0 where
    users : bare tables.users ≡ table_of new 4 new.users
    booleans : bare tables.booleans ≡ table_of new 5 new.booleans
    levels : bare tables.levels ≡ table_of new 6 new.levels
    categories : bare tables.categories ≡ table_of new 7 new.categories

  first-kept : (tables : RuleTables) → Stood (rule_tables_at tree.version) tables (first_text tree) → Grants (rule_tables_at version) HasFirst (first_text new)
  unfolding rule_tables_at
  first-kept tables stood =
      let commons = stood-found _ (text_of spell_class tree 1 tree.classes ++ behind_classes tree) (commons-laws.again (table_of tree 0 tree.commons) fits.commons) stood in
      let classes = stood-found _ (behind_classes tree) ((classes-laws tree.version commons.value).again (table_of tree 1 tree.classes) fits.classes) commons.others in
      let roles = stood-found _ (text_of spell_type tree 3 tree.types) (roles-laws.again (table_of tree 2 tree.roles) fits.roles) classes.others in
      let types = stood-found _ [] (types-laws.again (table_of tree 3 tree.types) fits.types) (stood-last roles.others) in
      grants-as
      (grants-part _ (commons-kept (table_of tree 0 tree.commons) fits.commons commons.value commons.is commons.first) λ new_commons are_commons.
      grants-part _ (classes-kept tree version fits commons.value new_commons commons.is are_commons classes.value classes.is classes.first) λ new_classes are_classes.
      grants-part _ (roles-kept (table_of tree 2 tree.roles) fits.roles roles.value roles.is roles.first) λ new_roles are_roles.
      grants-part _ (types-kept (table_of tree 3 tree.types) fits.types types.value types.is types.first) λ new_types are_types.
      grants-done _ (record { commons = are_commons; classes = are_classes; roles = are_roles; types = are_types }))
      (simp (append_assoc, append-nil))

  others-kept : (tables : OtherTables) → Stood other_tables_at tables (others_text tree) → Grants other_tables_at HasOthers (others_text new)
  unfolding other_tables_at
  others-kept tables stood =
      let users = stood-found _ (behind_users tree) (users-laws.again (table_of tree 4 tree.users) fits.users) stood in
      let booleans = stood-found _ (text_of spell_sensitivity tree 6 tree.levels ++ text_of spell_category tree 7 tree.categories) (booleans-laws.again (table_of tree 5 tree.booleans) fits.booleans) users.others in
      let levels = stood-found _ (text_of spell_category tree 7 tree.categories) (levels-laws.again (table_of tree 6 tree.levels) fits.levels) booleans.others in
      let categories = stood-found _ [] (categories-laws.again (table_of tree 7 tree.categories) fits.categories) (stood-last levels.others) in
      grants-as
      (grants-part _ (users-kept (table_of tree 4 tree.users) fits.users users.value users.is users.first) λ new_users are_users.
      grants-part _ (booleans-kept (table_of tree 5 tree.booleans) fits.booleans booleans.value booleans.is booleans.first) λ new_booleans are_booleans.
      grants-part _ (levels-kept (table_of tree 6 tree.levels) fits.levels levels.value levels.is levels.first) λ new_levels are_levels.
      grants-part _ (categories-kept (table_of tree 7 tree.categories) fits.categories categories.value categories.is categories.first) λ new_categories are_categories.
      grants-done _ (record { users = are_users; booleans = are_booleans; levels = are_levels; categories = are_categories }))
      (simp (append_assoc, append-nil))

  -- ---- all of them

  pub symbols-kept : (symbols : Symbols) → Stood (symbols_at tree.version) symbols (spell_symbols tree) → Grants (symbols_at version) (HasSymbols new) (spell_symbols new)
  unfolding symbols_at spell_symbols
  symbols-kept symbols stood =
      let there = stood-as {t = first_text tree ++ others_text tree} stood (simp append_assoc) in
      let first = stood-found _ (others_text tree) (first-there tree fits) there in
      let others = stood-found _ [] (others-there tree fits) (stood-last first.others) in
      grants-as
      (grants-part _ (first-kept first.value first.first) λ new_first has_first.
      grants-part _ (others-kept others.value others.first) λ new_others has_others.
      grants-done _ (record {
        commons = has_first.commons;
        classes = has_first.classes;
        roles = has_first.roles;
        types = has_first.types;
        users = has_others.users;
        booleans = has_others.booleans;
        levels = has_others.levels;
        categories = has_others.categories;
      }))
      (simp (append_assoc, append-nil))
