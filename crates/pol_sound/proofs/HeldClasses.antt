-- Classes that were read at a version are read at another one, with the type sets that this one has.
use Rattle.std.proofs.Common.{inl, inr, ◌≡◌, ℕ, ◌<◌, ◌^◌, Bool, true, false, ◌||◌, Option, Some, None, List, [], ◌∷◌, ◌++◌, length, refl, sym, ap, subst, ◌∙◌, append_assoc}
use Rattle.std.specs.Prelude.{◌==◌, map, is_some, option_map, unwrap_or}
use Rattle.std.specs.Str.{bytes_eq}
use Rattle.std.specs.List.{flat_map, find}
use Rattle.std.proofs.lemmas.Bool.{cases_Bool}
use Rattle.std.proofs.lemmas.List.{append-nil, length-map}
use Rattle.pol_fields.specs.declared.fields.TheConstants.{TABLE_NPRIM, TABLE_NEL, CLASS_COMMON, CLASS_NVALID, CLASS_DEFAULT_USER, CLASS_DEFAULT_ROLE, CLASS_DEFAULT_RANGE, CLASS_DEFAULT_TYPE}
use Rattle.pol_fields.specs.declared.Cause.TheVariants.{UnknownCommon}
use Rattle.pol_cursor.specs.Outcome.{Reader, ◌>>=◌, done, checked}
use Rattle.pol_cursor.specs.Parts.{number, list_of, spell_counted, unless}
use Rattle.pol_cursor.specs.References.{Placed, values_of}
use Rattle.pol_cursor.specs.Spelling.{bytes_of}
use Rattle.pol_cursor.proofs.Laws.{Again-number, Again-number_if, records_again, counted_records_again}
use Rattle.pol_symtab.specs.Claims.{Claims}
use Rattle.pol_symtab.specs.declared.TableContext.{TableContext}
use Rattle.pol_symtab.specs.declared.TableHead.{TableHead}
use Rattle.pol_symtab.specs.SymbolTables.{Table, BareTable, TableFits, nprim_test, table_head_at, bare_table_at, spell_table, has_the_name}
use Rattle.pol_commons.specs.declared.CommonRec.{CommonRec}
use Rattle.pol_commons.specs.declared.PermissionRec.{PermissionRec}
use Rattle.pol_commons.specs.PermissionRecord.{spell_permission}
use Rattle.pol_commons.specs.CommonTable.{common_named, inherited_from}
use Rattle.pol_commons.specs.Permissions.{permissions_at}
use Rattle.pol_commons.proofs.CommonLaws.{permissions_again}
use Rattle.pol_constraints.specs.ConstraintRecord as read_constraint
use Rattle.pol_constraints.specs.ConstraintRecord.{spell_constraint, ConstraintFits}
use Rattle.pol_constraints.proofs.ConstraintLaws.{constraint_again}
use Rattle.pol_classes.specs.declared.ClassRec.{ClassRec}
use Rattle.pol_classes.specs.declared.ClassContext.{ClassContext}
use Rattle.pol_classes.specs.ConstraintLists.{constraints_at}
use Rattle.pol_classes.specs.ClassRecord as read
use Rattle.pol_classes.specs.ClassRecord.{common_test, default_test, common_name_at, head_at, spell_head, default_at, head_of, spell_class, ClassFits, with_class}
use Rattle.pol_classes.specs.ClassTables.{class_start, after_class, class_under}
use Rattle.pol_classes.proofs.ClassLaws.{class_again, head_again}
use Rattle.pol_versions.specs.Conversion.{constraint_at, class_at}
use Rattle.pol_moved.proofs.Granted.{GrantsOf, grants-done, grants-then, grants-as, grants-number, grants-number_if, grants-counted}
use Rattle.pol_moved.proofs.Moves.{MovesTo, moves-done, moves-then, moves-number, moves-number_if, moves-string, moves-checked_as}
use Rattle.pol_moved.proofs.MovesSymbols.{moves-symbol_length, moves-symbol_name, moves-permissions}
use Rattle.pol_moved.proofs.Stood.{Stood, stood-as, stood-last, stood-part, stood-checked, stood-whole, stood-regrouped, stood-list_of, each-other, grants-each, grants-moved, grants-moved_to}
use Rattle.pol_sound.proofs.HeldConstraints.{constraints-granted}

-- ---- commons, by their values

-- tables of the same commons, wherever they stand
abbrev pub HaveSameCommons : Table CommonRec → Table CommonRec → Type 0
HaveSameCommons commons others = values_of commons.records ≡ values_of others.records

found-value : (name : List ℕ) (records : List (Placed CommonRec)) → option_map (λ r. r.value) (find (has_the_name (λ common. common.name) name) records) ≡ find (λ common. bytes_eq common.name name) (values_of records)
found-value name [] = refl
found-value name (r ∷ rs) = elim (cases_Bool (bytes_eq r.value.name name)) [
  | inl same ↦ rw same refl
  | inr other ↦ rw other (found-value name rs)
]

some-value : (o : Option (Placed CommonRec)) → is_some o ≡ is_some (option_map (λ r. r.value) o)
some-value (Some r) = refl
some-value None = refl

permissions-value : (o : Option (Placed CommonRec)) → unwrap_or (option_map (λ common. common.value.permissions) o) [] ≡ unwrap_or (option_map (λ common. common.permissions) (option_map (λ r. r.value) o)) []
permissions-value (Some r) = refl
permissions-value None = refl

module _ (commons others : Table CommonRec) (same : HaveSameCommons commons others) (name : List ℕ) where
  named-same : option_map (λ r. r.value) (common_named commons name) ≡ option_map (λ r. r.value) (common_named others name)
  named-same = found-value name commons.records ∙ ap (λ (xs : List CommonRec). find (λ common. bytes_eq common.name name) xs) same ∙ sym (found-value name others.records)

  test-same : common_test commons name ≡ common_test others name
  test-same =
      ap (λ (b : Bool). unless (length name == 0 || b) UnknownCommon)
      (some-value (common_named commons name) ∙ ap (λ (o : Option CommonRec). is_some o) named-same ∙ sym (some-value (common_named others name)))

  inherited-same : inherited_from commons name ≡ inherited_from others name
  inherited-same =
      permissions-value (common_named commons name) ∙ ap (λ (o : Option CommonRec). unwrap_or (option_map (λ common. common.permissions) o) []) named-same ∙ sym (permissions-value (common_named others name))

-- ---- the head of a class

moves-head : (taken : Claims) (nprim : ℕ) (commons others : Table CommonRec) → HaveSameCommons commons others → MovesTo (head_at taken nprim commons) (head_at taken nprim others)
unfolding head_at common_name_at
moves-head taken nprim commons others same =
    moves-then (moves-symbol_length _) λ len.
    moves-then (moves-number _ 4) λ common_len.
    moves-then (moves-number_if _ 4 _) λ value.
    moves-then (moves-number_if _ 4 _) λ own_nprim.
    moves-then (moves-number _ 4) λ nel.
    moves-then (moves-number _ 4) λ ncons.
    moves-then (moves-symbol_name _ taken len) λ name.
    moves-then (moves-checked_as CLASS_COMMON (common_test commons) (common_test others) (moves-string CLASS_COMMON common_len) (test-same commons others same)) λ common.
    moves-done _

-- ---- one class

module _ (old version : ℕ) (taken : Claims) (nprim : ℕ) (commons others : Table CommonRec) (same : HaveSameCommons commons others) where
  pub class-granted : (class : ClassRec) → ClassFits old class → Stood (read.class_at old taken nprim commons) class (spell_class class) → GrantsOf (read.class_at version taken nprim others) (class_at version class) (spell_class (class_at version class))
  unfolding read.class_at default_at
  class-granted class fits stood =
      let type_text = bytes_of 4 class.default_type in
      let range_text = bytes_of 4 class.default_range ++ type_text in
      let role_text = bytes_of 4 class.default_role ++ range_text in
      let user_text = bytes_of 4 class.default_user ++ role_text in
      let trans_text = spell_counted spell_constraint class.validatetrans ++ user_text in
      let constraints_text = flat_map spell_constraint class.constraints ++ trans_text in
      let permissions_text = flat_map spell_permission class.permissions ++ constraints_text in
      let there = stood-as {t = spell_head (head_of class) ++ permissions_text} stood (simp append_assoc) in
      let head_read = head_again taken nprim commons (head_of class) fits.head in
      let head = stood-part _ permissions_text head_read there in
      let inherited = inherited_from commons class.common in
      let permissions_again = permissions_again inherited class.permissions fits.permissions in
      let permissions = stood-part _ constraints_text permissions_again head.others in
      let constraints = stood-part _ trans_text (records_again (read_constraint.constraint_at old false) spell_constraint (ConstraintFits old) (constraint_again old false) class.constraints fits.constraints) permissions.others in
      let trans = stood-part _ user_text (counted_records_again CLASS_NVALID (read_constraint.constraint_at old true) spell_constraint (ConstraintFits old) (constraint_again old true) class.validatetrans fits.validatetrans) constraints.others in
      let user = stood-part _ role_text (Again-number_if CLASS_DEFAULT_USER 4 class.default_user _ fits.default_user) trans.others in
      let role = stood-part _ range_text (Again-number_if CLASS_DEFAULT_ROLE 4 class.default_role _ fits.default_role) user.others in
      let range = stood-part _ type_text (Again-number_if CLASS_DEFAULT_RANGE 4 class.default_range _ fits.default_range) role.others in
      let type = stood-part _ [] (Again-number_if CLASS_DEFAULT_TYPE 4 class.default_type _ fits.default_type) (stood-last range.others) in
      let count = stood-part _ (flat_map spell_constraint class.validatetrans) (Again-number CLASS_NVALID 4 (length class.validatetrans) fits.validatetrans.count) trans.first in
      let head_granted = grants-moved_to (moves-head taken nprim commons commons refl) (moves-head taken nprim commons others same) head_read head.first in
      let head_moved = subst (λ (n : ℕ). GrantsOf (head_at taken nprim others) (record (head_of class) { ncons = n }) (spell_head (record (head_of class) { ncons = n }))) (sym (length-map class.constraints (constraint_at version))) head_granted in
      let permissions_granted = grants-moved (moves-permissions inherited (length class.permissions)) permissions_again permissions.first in
      let permissions_moved = subst (λ (ps : List PermissionRec). GrantsOf (permissions_at ps (length class.permissions)) class.permissions (flat_map spell_permission class.permissions)) (inherited-same commons others same class.common) permissions_granted in
      let few : length (map (constraint_at version) class.validatetrans) < 2 ^ 32 = rw (length-map class.validatetrans (constraint_at version)) fits.validatetrans.count in
      let trans_granted = constraints-granted old version true class.validatetrans fits.validatetrans.items count.others in
      grants-as
      (grants-then _ head_moved
      (grants-then _ permissions_moved
      (grants-then _ (constraints-granted old version false class.constraints fits.constraints constraints.first)
      (grants-then _ (grants-counted CLASS_NVALID (constraints_at version true) spell_constraint (map (constraint_at version) class.validatetrans) few trans_granted)
      (grants-then _ (grants-number_if CLASS_DEFAULT_USER 4 class.default_user _ fits.default_user (stood-checked CLASS_DEFAULT_USER (number CLASS_DEFAULT_USER 4) (default_test 2) user.first))
      (grants-then _ (grants-number_if CLASS_DEFAULT_ROLE 4 class.default_role _ fits.default_role (stood-checked CLASS_DEFAULT_ROLE (number CLASS_DEFAULT_ROLE 4) (default_test 2) role.first))
      (grants-then _ (grants-number_if CLASS_DEFAULT_RANGE 4 class.default_range _ fits.default_range (stood-checked CLASS_DEFAULT_RANGE (number CLASS_DEFAULT_RANGE 4) (default_test 7) range.first))
      (grants-then _ (grants-number_if CLASS_DEFAULT_TYPE 4 class.default_type _ fits.default_type (stood-checked CLASS_DEFAULT_TYPE (number CLASS_DEFAULT_TYPE 4) (default_test 2) type.first))
      (grants-done (class_at version class) refl)))))))))
      (simp (append_assoc, append-nil))

-- ---- the table

-- contexts of the same commons and the same claims
record AreSameContexts (context under : ClassContext) : Type 0 where
  commons : HaveSameCommons context.commons under.commons
  table : context.table ≡ under.table

-- the table of classes at a version
abbrev pub classes_at : ℕ → BareTable ClassRec → BareTable ClassRec
classes_at version table = record { nprim = table.nprim; records = map (class_at version) table.records }

class-under : (old version : ℕ) (context under : ClassContext) (class : ClassRec) → AreSameContexts context under → ClassFits old class → Stood (class_under old context) class (spell_class class)
    → GrantsOf (class_under version under) (class_at version class) (spell_class (class_at version class))
class-under old version context under class same fits stood =
    let granted = class-granted old version context.table.taken context.table.nprim context.commons under.commons same.commons class fits stood in
    subst (λ (t : TableContext). GrantsOf (read.class_at version t.taken t.nprim under.commons) (class_at version class) (spell_class (class_at version class))) same.table granted

pub class_table-granted : (old version : ℕ) (commons others : Table CommonRec) → HaveSameCommons commons others → (table : BareTable ClassRec) → TableFits (ClassFits old) table
    → Stood (bare_table_at (class_under old) after_class (class_start commons)) table (spell_table spell_class table)
    → GrantsOf (bare_table_at (class_under version) after_class (class_start others)) (classes_at version table) (spell_table spell_class (classes_at version table))
unfolding bare_table_at table_head_at
class_table-granted old version commons others same table fits stood =
    let records_text = flat_map spell_class table.records in
    let nel_text = bytes_of 4 (length table.records) ++ records_text in
    let there = stood-as {t = bytes_of 4 table.nprim ++ nel_text} stood (simp append_assoc) in
    let rows_at : TableHead → Reader (List ClassRec) = λ head. list_of (λ left context. class_under old context) after_class head.nel (class_start commons head.nprim) in
    let behind : TableHead → Reader (BareTable ClassRec) = λ head. rows_at head >>= λ records. done (record { nprim = head.nprim; records = records }) in
    let with_nel : ℕ → ℕ → Reader TableHead = λ nprim nel. done (record { nprim = nprim; nel = nel }) in
    let whole = stood-regrouped (checked TABLE_NPRIM (number TABLE_NPRIM 4) nprim_test) (λ nprim. number TABLE_NEL 4 >>= with_nel nprim) behind there in
    let nprim = stood-part (λ nprim. (number TABLE_NEL 4 >>= with_nel nprim) >>= behind) nel_text (Again-number_if TABLE_NPRIM 4 table.nprim nprim_test fits.nprim) whole in
    let behind_nprim = stood-regrouped (number TABLE_NEL 4) (with_nel table.nprim) behind nprim.others in
    let nel = stood-part (λ nel. with_nel table.nprim nel >>= behind) records_text (Again-number TABLE_NEL 4 (length table.records) fits.nel) behind_nprim in
    let head : TableHead = record { nprim = table.nprim; nel = length table.records } in
    let records = stood-whole (rows_at head) (λ records. record { nprim = table.nprim; records = records }) nel.others in
    let is : records.part ≡ table.records = ap (λ (t : BareTable ClassRec). t.records) records.made in
    let records_there = subst (λ (xs : List ClassRec). Stood (rows_at head) xs records_text) is records.stood in
    let each = stood-list_of (λ left context. class_under old context) after_class spell_class (ClassFits old) (λ left context. class_again old context.table.taken context.table.nprim context.commons) table.records (class_start commons table.nprim) fits.records records_there in
    let start : AreSameContexts (class_start commons table.nprim) (class_start others table.nprim) = record { commons = same; table = refl } in
    let granted = each-other (λ left context x. ClassFits old x × Stood (class_under old context) x (spell_class x)) after_class (λ left under x. GrantsOf (class_under version under) x (spell_class x)) after_class (class_at version) AreSameContexts
    (λ left context under x same h. class-under old version context under x same h.0 h.1)
    (λ context under x same. record { commons = same.commons; table = ap (λ (t : TableContext). record t { taken = with_class t.taken x }) same.table })
    table.records (class_start commons table.nprim) (class_start others table.nprim) start each
    in
    let long = length-map table.records (class_at version) in
    let meets : nprim_test table.nprim ≡ None = stood-checked TABLE_NPRIM (number TABLE_NPRIM 4) nprim_test nprim.first in
    let few : length (map (class_at version) table.records) < 2 ^ 32 = rw long fits.nel in
    grants-as
    (grants-then _
    (grants-then _ (grants-number_if TABLE_NPRIM 4 table.nprim _ fits.nprim meets)
    (grants-then _ (grants-number TABLE_NEL 4 (length (map (class_at version) table.records)) few)
    (grants-done (record { nprim = table.nprim; nel = length (map (class_at version) table.records) }) refl)))
    (grants-then _ (grants-each (λ left context. class_under version context) after_class spell_class (map (class_at version) table.records) (class_start others table.nprim) granted)
    (grants-done (classes_at version table) refl)))
    (simp (append_assoc, append-nil))
